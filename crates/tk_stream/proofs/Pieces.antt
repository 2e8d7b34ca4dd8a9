-- Pieces of a text, one after the other.
use Rattle.std.proofs.Common.{◌≡◌, ℕ, ◌+◌, ◌-◌, ◌*◌, ◌/◌, ◌%◌, ◌^◌, ◌<◌, ◌≤◌, decimal, List, [], ◌∷◌, ◌++◌, length, drop, take, get_or, Bool, true, false, refl, sym, ap, ◌∙◌, append_assoc, append-nil, codes, inl, inr, arith, true≢false}
use Rattle.std.specs.Prelude.{map, ◌&&◌, nat_le}
use Rattle.std.specs.Bool.{OnTrue}
use Rattle.std.specs.List.{list_all}
use Rattle.std.proofs.lemmas.List.{drop_more, drop_all, drop-drop, drop-append-le, length-drop, length-take-le, take_all, take_rest, flat_map_more}
use Rattle.std.proofs.Math.Seq.{drop-append_seam}
use Rattle.std.proofs.lemmas.Simd.{put_chunk_is}
use Rattle.std.specs.Simd.Lanes.{put_chunk}
use Rattle.std.proofs.lemmas.List.Sums.{AllPass-from_list_all}
use Rattle.std.proofs.lemmas.List.Folds.{list_all_more, list_all-append}
use Rattle.std.proofs.lemmas.Fmt.{decimal_step, decimal_digit}
use Rattle.std.proofs.lemmas.Slice.Eq.{bytes_eq-Decides}
use Rattle.std.specs.Str.{bytes_eq}
use lib.ListN.{take-append-drop}
use Rattle.std.proofs.lemmas.Bool.{and_parts, or_parts, or_cases, cases_eq, eqb-true, eqb-false, leb-true, not-true}
use Rattle.json.specs.Print.{escape, escape_byte, quoted}
use Rattle.json.proofs.Printed.Strings.{escape_byte_plain}
use Rattle.serde_json.specs.Data.{Data}
use Rattle.serde_json.specs.View.{items_of}
use Rattle.serde_json.specs.Written.{compact_text, items_text, members_text, comma_if}
use Rattle.tk_ids.specs.Names.{is_name, is_printable}
use Rattle.tk_stream.specs.Pieces.{Puts, PutsOpen, Takes, is_escaped, is_plain}
use Rattle.tk_stream.specs.Lines.{LineView, version}
use Rattle.tk_stream.specs.Spelling.{members_in, text_after, gone_members, members_between, times_fields, number_data, dropped_data, line_data, line_text}

-- ---- writing

-- a piece was put, and more is to come
pub puts_more : {old new piece : List ℕ} → Puts old new piece → (more : List ℕ) → new ++ more ≡ old ++ (piece ++ more)
puts_more {old} {new} {piece} h more = ap (λ xs. xs ++ more) h.is ∙ append_assoc old piece more

-- the last piece was put
pub last : {old new piece : List ℕ} → Puts old new piece → new ≡ old ++ (piece ++ [])
last {old} {new} {piece} h = sym (append-nil new) ∙ puts_more h []

-- two pieces were put
pub both : {a b c p q : List ℕ} → Puts a b p → Puts b c q → Puts a c (p ++ q)
both {a} {b} {c} {p} {q} g h = record { is = h.is ∙ puts_more g q }

-- the last of some pieces was put
pub at_end : {old new piece : List ℕ} → Puts old new piece → Puts old new (piece ++ [])
at_end {old} {new} {piece} h = record { is = h.is ∙ ap (λ xs. old ++ xs) (sym (append-nil piece)) }

-- a text was written before the end of an array, and put after what was written
pub short_put : {old new bytes text : List ℕ} {n : ℕ} (array : List ℕ) → length array ≡ n → Puts old new bytes → Takes bytes text (drop n array) → Puts old new text
short_put {old} {new} {bytes} {text} {n} array is put took =
    record { is = put.is ∙ ap (λ xs. old ++ xs) (took.is ∙ ap (λ xs. text ++ xs) (drop_all n array (omega arith)) ∙ append-nil text) }

-- what stands from the end of a written piece on stays
pub taken_from : (start at : ℕ) (piece old new : List ℕ) → start + length piece ≡ at → Takes (drop start new) piece (drop at old) → drop at new ≡ drop at old
taken_from start at piece old new place took =
    ap (λ n. drop n new) (sym place) ∙ sym (drop-drop (length piece) start new) ∙ ap (λ xs. drop (length piece) xs) took.is ∙ drop-append_seam piece (drop at old)

-- what was written and what is put after it are the text
pub record Joined (bytes more text : List ℕ) : Type 0 where
  pub is : bytes ++ more ≡ text

pub nothing_before : {more : List ℕ} {n : ℕ} (array : List ℕ) → length array ≡ n → Joined (drop n array) more more
nothing_before {more} {n} array is = record { is = ap (λ xs. xs ++ more) (drop_all n array (omega arith)) }

-- a piece was written before others
pub before : {bytes piece rest more text : List ℕ} → Takes bytes piece rest → Joined rest more text → Joined bytes more (piece ++ text)
before {bytes} {piece} {rest} {more} {text} took joined =
    record { is = ap (λ xs. xs ++ more) took.is ∙ append_assoc piece rest more ∙ ap (λ xs. piece ++ xs) joined.is }

-- these pieces were put, and then more
pub short_both : {old middle new bytes more text : List ℕ} → Puts old middle bytes → Joined bytes more text → Puts middle new more → Puts old new text
short_both {old} {middle} {new} {bytes} {more} {text} put joined later =
    record { is = later.is ∙ puts_more put more ∙ ap (λ xs. old ++ xs) joined.is }

-- a text that is spelled in other pieces
pub put_as : {old new text pieces : List ℕ} → text ≡ pieces → Puts old new pieces → Puts old new text
put_as {old} is put = record { is = put.is ∙ ap (λ xs. old ++ xs) (sym is) }

-- a text was put with what a value begins with, and a list after it
pub open_after : {old middle new before text : List ℕ} → Puts old middle before → PutsOpen middle new text → PutsOpen old new (before ++ text)
open_after {old} {middle} {new} {before} {text} put opened =
    record { is = opened.is ∙ ap (λ xs. xs ++ text) put.is ∙ append_assoc old before text }

-- the same, where a comma may stand before both
pub open_item : {old middle new text : List ℕ} (comma before : List ℕ) → Puts old middle (comma ++ before) → PutsOpen middle new text → PutsOpen old new (comma ++ (before ++ text))
open_item {old} {middle} {new} {text} comma before put opened =
    record { is = (open_after put opened).is ∙ ap (λ xs. old ++ xs) (append_assoc comma before text) }

-- the next text closes the list
pub closes : {old middle new text more : List ℕ} → PutsOpen old middle text → Puts middle new (93 ∷ more) → Puts old new (text ++ more)
closes {old} {middle} {new} {text} {more} opened put =
    record { is = put.is ∙ sym (append_assoc middle (93 ∷ []) more) ∙ ap (λ xs. xs ++ more) opened.is ∙ append_assoc old text more }

-- the same, where a comma may stand before the text
pub closes_item : {old middle new more : List ℕ} (comma text : List ℕ) → PutsOpen old middle (comma ++ text) → Puts middle new (93 ∷ more) → Puts old new (comma ++ (text ++ more))
closes_item {old} {middle} {new} {more} comma text opened put = put_as (sym (append_assoc comma text more)) (closes opened put)

-- a loop over a list, one item on
pub item_put : {A : Type 0} (f : A → Data) (list : List A) (i : ℕ) (later : Bool) (item : A) (out next total : List ℕ)
    → i < length list → item ≡ get_or list i item → Puts out next (comma_if later ++ compact_text (f item))
    → out ++ items_text later (items_of (map f (drop i list))) ≡ total
    → next ++ items_text true (items_of (map f (drop (i + 1) list))) ≡ total
item_put f list i later item out next total lt is put so_far =
    puts_more put _
    ∙ ap (λ xs. out ++ xs) (append_assoc (comma_if later) (compact_text (f item)) _)
    ∙ sym (ap (λ xs. out ++ items_text later (items_of (map f xs))) (drop_more list i item lt ∙ ap (λ x. x ∷ drop (i + 1) list) (sym is)))
    ∙ so_far

-- and at its end
pub items_open : {A : Type 0} (f : A → Data) (list : List A) (i : ℕ) (later : Bool) (out total : List ℕ)
    → length list ≤ i → out ++ items_text later (items_of (map f (drop i list))) ≡ total → out ++ 93 ∷ [] ≡ total
items_open f list i later out total past so_far =
    sym (ap (λ xs. out ++ items_text later (items_of (map f xs))) (drop_all i list past)) ∙ so_far

-- members that stand after others
pub members_after : (fs gs : List (List ℕ × Data)) → members_text true (members_in (fs ++ gs)) ≡ text_after fs ++ members_text true (members_in gs)
members_after [] gs = refl
members_after (f ∷ fs) gs =
    ap (λ xs. 44 ∷ (quoted f.0 ++ 58 ∷ (compact_text f.1 ++ xs))) (members_after fs gs)
    ∙ ap (λ xs. 44 ∷ (quoted f.0 ++ 58 ∷ xs)) (sym (append_assoc (compact_text f.1) (text_after fs) (members_text true (members_in gs))))
    ∙ ap (λ xs. 44 ∷ xs) (sym (append_assoc (quoted f.0) (58 ∷ (compact_text f.1 ++ text_after fs)) (members_text true (members_in gs))))

-- members that stand after others, and the end of the object
pub members_close : (fs : List (List ℕ × Data)) → members_text true (members_in fs) ≡ text_after fs ++ 125 ∷ []
members_close fs = ap (λ xs. members_text true (members_in xs)) (sym (append-nil fs)) ∙ members_after fs []

-- members and what stands after them
abbrev pub members_then : List (List ℕ × Data) → List ℕ → List ℕ
members_then [] more = more
members_then (f ∷ fs) more = 44 ∷ (quoted f.0 ++ 58 ∷ (compact_text f.1 ++ members_then fs more))

then_members : (fs gs : List (List ℕ × Data)) → members_text true (members_in (fs ++ gs)) ≡ members_then fs (members_text true (members_in gs))
then_members [] gs = refl
then_members (f ∷ fs) gs = ap (λ xs. 44 ∷ (quoted f.0 ++ 58 ∷ (compact_text f.1 ++ xs))) (then_members fs gs)

-- the last members of a line: the histograms, and its version
abbrev last_members : LineView → List (List ℕ × Data)
last_members l = times_fields l.task_times ++ (codes "v", number_data (version l)) ∷ []

-- the text of a line: its first member, what is gone, what each version has, the histograms, and the version
pub line_split : (l : LineView) → line_text l
    ≡ codes "{\"dropped\":" ++ (compact_text (dropped_data l.dropped) ++ (text_after (gone_members l.gone)
    ++ members_then (members_between l) (text_after (times_fields l.task_times) ++ members_text true (members_in ((codes "v", number_data (version l)) ∷ [])))))
unfolding line_text line_data escape_byte
line_split l =
    ap (λ xs. codes "{\"dropped\":" ++ (compact_text (dropped_data l.dropped) ++ xs))
    (members_after (gone_members l.gone) (members_between l ++ last_members l)
    ∙ ap (λ xs. text_after (gone_members l.gone) ++ xs) (then_members (members_between l) (last_members l)
    ∙ ap (members_then (members_between l)) (members_after (times_fields l.task_times) ((codes "v", number_data (version l)) ∷ []))))

-- two pieces were taken
pub taken : {a b c p q : List ℕ} → Takes a p b → Takes b q c → Takes a (p ++ q) c
taken {a} {b} {c} {p} {q} g h = record { is = g.is ∙ ap (λ xs. p ++ xs) h.is ∙ sym (append_assoc p q c) }

-- the first bytes of a text were stored before what begins at a place
pub stored_before : (start at : ℕ) (old piece : List ℕ) → start + length piece ≡ at → at ≤ length old → Takes (drop start (put_chunk start old piece)) piece (drop at old)
stored_before start at old piece place room =
    let long : length (take start old) ≡ start = length-take-le start old (omega arith) in
    record {
      is = ap (λ xs. drop start xs) (put_chunk_is start old piece (omega arith))
          ∙ ap (λ n. drop n (take start old ++ (piece ++ drop (length piece) (drop start old)))) (sym long)
          ∙ drop-append_seam (take start old) (piece ++ drop (length piece) (drop start old))
          ∙ ap (λ xs. piece ++ xs) (drop-drop (length piece) start old ∙ ap (λ n. drop n old) place);
    }

-- a text was written by its end and then by its front, which may reach into the end
pub ends_joined : (text old middle new : List ℕ) (k at tail start : ℕ) → k ≤ length text → length text ≤ k + k → length text ≤ at → tail + k ≡ at
    → Takes (drop tail middle) (take k (take (length text - (length text - k)) (drop (length text - k) text))) (drop at old)
    → Takes (drop start new) (take k text) (drop (at - (length text - k)) middle)
    → Takes (drop start new) text (drop at old)
ends_joined text old middle new k at tail start some most room place end front =
    let last = length text - k in
    let more = k + k - length text in
    let long : length (drop last text) ≡ length text - last = length-drop last text in
    let whole : take k (take (length text - last) (drop last text)) ≡ drop last text =
    ap (λ xs. take k xs) (take_rest text last) ∙ take_all k (drop last text) (omega (arith, long)) in
    let from : tail + more ≡ at - last = omega arith in
    let till : last + more ≡ k = omega arith in
    let within : more ≤ length (drop last text) = omega (arith, long) in
    record {
      is = front.is ∙ ap (λ xs. take k text ++ xs)
          (ap (λ n. drop n middle) (sym from) ∙ sym (drop-drop more tail middle) ∙ ap (λ xs. drop more xs) (end.is ∙ ap (λ xs. xs ++ drop at old) whole)
          ∙ drop-append-le more (drop last text) (drop at old) within
          ∙ ap (λ xs. xs ++ drop at old) (drop-drop more last text ∙ ap (λ n. drop n text) till))
          ∙ sym (append_assoc (take k text) (drop k text) (drop at old)) ∙ ap (λ xs. xs ++ drop at old) (take-append-drop k text);
    }

-- ---- names

-- a quote or a backslash has a backslash before it
pub special_byte : (b : ℕ) → is_escaped b ≡ true → escape_byte b ≡ 92 ∷ b ∷ []
unfolding escape_byte
special_byte b e = elim (cases_eq b 34) [
  | inl is ↦ rw is refl
  | inr other ↦ elim (cases_eq b 92) [ inl is ↦ rw is refl | inr another ↦ absurd (neither b e other another) ]
]
  where
    neither : (b : ℕ) → is_escaped b ≡ true → (b ≡ 34 → ⊥) → (b ≡ 92 → ⊥) → ⊥
    neither b e other another = elim (or_cases _ _ e) [ inl is ↦ other (eqb-true b 34 is) | inr is ↦ another (eqb-true b 92 is) ]

printable_least : (b : ℕ) → is_printable b ≡ true → 32 ≤ b
printable_least b e = leb-true 32 b (and_parts _ _ e).0

-- another printable byte stands for itself
pub plain_byte : (b : ℕ) → is_printable b ≡ true → is_escaped b ≡ false → escape_byte b ≡ b ∷ []
plain_byte b printable e =
    let none = or_parts _ _ e in
    escape_byte_plain b (eqb-false b 34 none.0) (eqb-false b 92 none.1) (printable_least b printable)

-- a text of such bytes stands for itself
pub plain_text : (bs : List ℕ) → list_all is_printable bs ≡ true → list_all is_plain bs ≡ true → escape bs ≡ bs
plain_text [] p q = refl
plain_text (b ∷ bs) p q =
    let here = and_parts _ _ p in
    let plain = and_parts _ _ q in
    λ i. plain_byte b here.0 (not-true (is_escaped b) plain.0) i ++ plain_text bs here.1 plain.1 i

pub printable_name : (bs : List ℕ) → is_name bs ≡ true → list_all is_printable bs ≡ true
printable_name bs e = (and_parts (nat_le 1 (length bs) && nat_le (length bs) 1024) (list_all is_printable bs) e).1

pub printable_at : (bs : List ℕ) (i : ℕ) → list_all is_printable bs ≡ true → i < length bs → is_printable (get_or bs i 0) ≡ true
printable_at bs i e lt = AllPass-from_list_all is_printable bs e i 0 lt

-- a byte was written before others, with the backslash that it has, or without one
pub special_before : {bytes middle rest : List ℕ} (b : ℕ) (special : Bool) → special ≡ is_escaped b → special ≡ true
    → Takes bytes (92 ∷ []) middle → Takes middle (b ∷ []) rest → Takes bytes (escape_byte b) rest
special_before {bytes} {middle} {rest} b special is so slash byte =
    record { is = slash.is ∙ ap (λ xs. 92 ∷ xs) byte.is ∙ sym (ap (λ xs. xs ++ rest) (special_byte b (sym is ∙ so))) }

pub usual_before : {bytes rest : List ℕ} (b : ℕ) (special : Bool) → is_printable b ≡ true → special ≡ is_escaped b → special ≡ false
    → Takes bytes (b ∷ []) rest → Takes bytes (escape_byte b) rest
usual_before {bytes} {rest} b special printable is so byte =
    record { is = byte.is ∙ sym (ap (λ xs. xs ++ rest) (plain_byte b printable (sym is ∙ so))) }

-- a loop over bytes from the last to the first, one byte on
pub byte_before_others : (bs : List ℕ) (i : ℕ) (bytes middle rest : List ℕ) → i < length bs → Takes bytes (escape_byte (get_or bs i 0)) middle
    → Takes middle (escape (drop (i + 1) bs)) rest → Takes bytes (escape (drop i bs)) rest
byte_before_others bs i bytes middle rest lt byte others =
    record { is = (taken byte others).is ∙ sym (ap (λ xs. escape xs ++ rest) (drop_more bs i 0 lt)) }

-- a name that stands for itself
pub plain_before : {bytes rest : List ℕ} (bs : List ℕ) (plain : Bool) → OnTrue plain (escape bs ≡ bs) → plain ≡ true → Takes bytes bs rest → Takes bytes (escape bs) rest
plain_before {bytes} {rest} bs true h so took = record { is = took.is ∙ ap (λ xs. xs ++ rest) (sym h) }
plain_before {bytes} {rest} bs false h so took = absurd (true≢false (sym so))

-- ---- reading

-- the last of some pieces was taken
pub taken_last : {bytes piece rest : List ℕ} → Takes bytes piece rest → Takes bytes (piece ++ []) rest
taken_last {bytes} {piece} {rest} h = record { is = h.is ∙ ap (λ xs. xs ++ rest) (sym (append-nil piece)) }

pub text_taken : (bytes text front rest : List ℕ) (same : Bool) → front ≡ take (length text) bytes → rest ≡ drop (length text) bytes
    → same ≡ bytes_eq front text → same ≡ true → Takes bytes text rest
text_taken bytes text front rest same a b is so =
    record { is = sym (take-append-drop (length text) bytes) ∙ rw (← a, ← b) (ap (λ xs. xs ++ rest) ((bytes_eq-Decides front text).0 (sym is ∙ so))) }

-- a loop over digits, one digit on
pub digit_taken : (bs : List ℕ) (i n d m : ℕ) (total : List ℕ) → i < length bs → get_or bs i 0 ≡ 48 + d → d < 10 → 0 < n → m ≡ n * 10 + d → m < 2 ^ 64
    → decimal n ++ drop i bs ≡ total → decimal m ++ drop (i + 1) bs ≡ total
digit_taken bs i n d m total lt is small positive next fits so_far =
    let most : m / 10 ≡ n = omega arith in
    let least : m % 10 ≡ d = omega arith in
    let step : decimal m ≡ decimal n ++ ((48 + d) ∷ []) = decimal_step m (omega arith) fits ∙ rw (most, least) refl in
    ap (λ xs. xs ++ drop (i + 1) bs) step ∙ append_assoc (decimal n) ((48 + d) ∷ []) (drop (i + 1) bs)
    ∙ sym (ap (λ xs. decimal n ++ xs) (drop_more bs i 0 lt ∙ ap (λ x. x ∷ drop (i + 1) bs) is)) ∙ so_far

-- the first digit
pub first_taken : (bytes rest out : List ℕ) (b d n : ℕ) → bytes ≡ b ∷ rest → b ≡ 48 + d → d < 10 → decimal d ++ rest ≡ decimal n ++ out → Takes bytes (decimal n) out
first_taken bytes rest out b d n is digit small so_far =
    record { is = is ∙ ap (λ x. x ∷ rest) digit ∙ sym (ap (λ xs. xs ++ rest) (decimal_digit d small)) ∙ so_far }

pub zero_taken : (bytes rest : List ℕ) (b d : ℕ) → bytes ≡ b ∷ rest → b ≡ 48 + d → d < 10 → d ≡ 0 → Takes bytes (decimal 0) rest
zero_taken bytes rest b d is digit small zero_is = first_taken bytes rest rest b d 0 is digit small (ap (λ n. decimal n ++ rest) zero_is)

pub first_one : (bs : List ℕ) → 1 ≤ length bs → bs ≡ get_or bs 0 0 ∷ take (length bs - 1) (drop 1 bs)
first_one bs some = drop_more bs 0 0 (omega arith) ∙ ap (λ xs. get_or bs 0 0 ∷ xs) (sym (take_rest bs 1))

-- the bytes before a quote
pub content_taken : (bs : List ℕ) (i : ℕ) → i < length bs → get_or bs i 0 ≡ 34 → Takes bs (take i bs ++ 34 ∷ []) (drop (i + 1) bs)
content_taken bs i lt is =
    record { is = sym (take-append-drop i bs) ∙ ap (λ xs. take i bs ++ xs) (drop_more bs i 0 lt ∙ ap (λ x. x ∷ drop (i + 1) bs) is) ∙ sym (append_assoc (take i bs) (34 ∷ []) (drop (i + 1) bs)) }

-- one plain byte more
pub plain_more : (bs : List ℕ) (i : ℕ) (escaped : Bool) → i < length bs → escaped ≡ is_escaped (get_or bs i 0) → escaped ≡ false → list_all is_plain (take i bs) ≡ true → list_all is_plain (take (i + 1) bs) ≡ true
plain_more bs i escaped lt is so before = list_all_more is_plain bs i 0 lt ∙ rw (before, sym is ∙ so) refl

-- one printable byte more
pub printable_more : (bs : List ℕ) (i : ℕ) (printable : Bool) → i < length bs → printable ≡ is_printable (get_or bs i 0) → printable ≡ true → list_all is_printable (take i bs) ≡ true → list_all is_printable (take (i + 1) bs) ≡ true
printable_more bs i printable lt is so before = list_all_more is_printable bs i 0 lt ∙ rw (before, sym is ∙ so) refl

pub name_taken : (bytes text rest name : List ℕ) → Takes bytes (text ++ 34 ∷ []) rest → list_all is_plain text ≡ true → name ≡ text → is_name text ≡ true → Takes bytes (escape name ++ 34 ∷ []) rest
name_taken bytes text rest name h plain same named =
    record { is = h.is ∙ ap (λ xs. (xs ++ 34 ∷ []) ++ rest) (sym (plain_text text (printable_name text named) plain) ∙ ap escape (sym same)) }

-- a byte without a backslash
pub plain_taken : (bs : List ℕ) (escaped : Bool) → 1 ≤ length bs → escaped ≡ is_escaped (get_or bs 0 0) → escaped ≡ false → is_printable (get_or bs 0 0) ≡ true
    → Takes bs (escape_byte (get_or bs 0 0)) (take (length bs - 1) (drop 1 bs))
plain_taken bs escaped some is so printable =
    record { is = first_one bs some ∙ ap (λ xs. xs ++ take (length bs - 1) (drop 1 bs)) (sym (plain_byte (get_or bs 0 0) printable (sym is ∙ so))) }

-- what was read of a text, and the rest
abbrev pub Unescapes : List ℕ → List ℕ → List ℕ → Type 0
Unescapes bytes text rest = list_all is_printable text ≡ true → bytes ≡ escape text ++ rest

pub unescapes_more : (bytes text rest after : List ℕ) (b : ℕ) → Unescapes bytes text rest → (is_printable b ≡ true → Takes rest (escape_byte b) after) → Unescapes bytes (text ++ b ∷ []) after
unescapes_more bytes text rest after b so_far took printable =
    let parts = and_parts (list_all is_printable text) (list_all is_printable (b ∷ [])) (sym (list_all-append is_printable text (b ∷ [])) ∙ printable) in
    let here = and_parts (is_printable b) true parts.1 in
    so_far parts.0 ∙ ap (λ xs. escape text ++ xs) (took here.0).is
    ∙ sym (append_assoc (escape text) (escape_byte b) after) ∙ ap (λ xs. xs ++ after) (flat_map_more escape_byte [] text b)

pub unescapes_all : (bytes text rest after : List ℕ) → Unescapes bytes text rest → Takes rest (34 ∷ []) after → list_all is_printable text ≡ true → Takes bytes (escape text ++ 34 ∷ []) after
unescapes_all bytes text rest after so_far quote printable =
    record { is = so_far printable ∙ ap (λ xs. escape text ++ xs) quote.is ∙ sym (append_assoc (escape text) (34 ∷ []) after) }

-- ---- lists

-- what a list that goes on so would be: its text is what was read, and these items
abbrev pub GoesOn : {A : Type 0} (f : A → Data) (front : List A) (bytes rest : List ℕ) → Type 0
GoesOn {A} f front bytes rest = (item : A) (items : List A) (more : List ℕ)
    → rest ≡ compact_text (f item) ++ (items_text true (items_of (map f items)) ++ more)
    → bytes ≡ items_text false (items_of (map f (front ++ item ∷ items))) ++ more

pub goes_first : {A : Type 0} (f : A → Data) (bytes : List ℕ) → GoesOn f [] bytes bytes
goes_first f bytes item items more e = e ∙ sym (append_assoc (compact_text (f item)) (items_text true (items_of (map f items))) more)

pub goes_further : {A : Type 0} (f : A → Data) (front : List A) (x : A) (bytes rest after next : List ℕ)
    → Takes rest (compact_text (f x)) after → Takes after (44 ∷ []) next → GoesOn f front bytes rest → GoesOn f (front ++ x ∷ []) bytes next
goes_further f front x bytes rest after next took comma so_far item items more e =
    so_far x (item ∷ items) more
    (took.is ∙ ap (λ xs. compact_text (f x) ++ xs) (comma.is ∙ ap (λ xs. 44 ∷ xs) (e ∙ sym (append_assoc (compact_text (f item)) (items_text true (items_of (map f items))) more))))
    ∙ ap (λ xs. items_text false (items_of (map f xs)) ++ more) (sym (append_assoc front (x ∷ []) (item ∷ items)))

pub goes_out : {A : Type 0} (f : A → Data) (front : List A) (x : A) (bytes rest after out : List ℕ)
    → Takes rest (compact_text (f x)) after → Takes after (93 ∷ []) out → GoesOn f front bytes rest
    → Takes bytes (items_text false (items_of (map f (front ++ x ∷ [])))) out
goes_out f front x bytes rest after out took closed so_far =
    record { is = so_far x [] out (took.is ∙ ap (λ xs. compact_text (f x) ++ xs) closed.is) }

-- nothing is left
pub all_taken : {bytes text rest : List ℕ} → Takes bytes text rest → rest ≡ [] → Takes bytes text []
all_taken {bytes} {text} {rest} h e = record { is = h.is ∙ ap (λ xs. text ++ xs) e }

-- a name that had backslashes
pub escaped_taken : (bytes text rest name : List ℕ) → (list_all is_printable text ≡ true → Takes bytes (escape text ++ 34 ∷ []) rest) → name ≡ text → is_name text ≡ true → Takes bytes (escape name ++ 34 ∷ []) rest
escaped_taken bytes text rest name h same named = rw same (h (printable_name text named))
