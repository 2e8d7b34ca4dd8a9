-- That a line of a stream is found in what is kept of it.
use Rattle.std.proofs.Common.{◌≡◌, ℕ, zero, suc, ◌-◌, ◌^◌, ◌<◌, ◌≤◌, List, [], ◌∷◌, ◌++◌, length, Bool, true, false, cond, nat_eq, refl, ap, subst, sym, ◌∙◌, arith, append_assoc, append-nil, length-append}
use Rattle.std.specs.Prelude.{slice_get}
use Rattle.std.specs.List.{concat, fold, onto_first, slice_split}
use Rattle.std.specs.Io.Iter.{u64_saturate}
use Rattle.tk_client.specs.Meaning.{in_front, cut}
use Rattle.tk_client.proofs.Pieces.{cut-append, glue}
use Rattle.tk_explain.specs.Keeping.{LinesView, kept_of, kept_with, no_lines}
use Rattle.tk_explain.specs.Telling.{line_after}
use Rattle.tk_explain.proofs.Cuts.{all_unended}

-- ---- the lines of a text

-- with the one that goes on
all_lines : List (List ℕ) × List ℕ → List (List ℕ)
all_lines c = c.0 ++ c.1 ∷ []

first_more : (b : ℕ) (c : List (List ℕ) × List ℕ) → onto_first b (all_lines c) ≡ all_lines (in_front b c)
unfolding all_lines
first_more b ([], r) = refl
first_more b (l ∷ ls, r) = refl

split_is_cut : (bs : List ℕ) → slice_split (λ b. nat_eq b 10) bs ≡ all_lines (cut bs)
unfolding all_lines
split_is_cut [] = refl
split_is_cut (b ∷ bs) = by (nat_eq b 10) (split_is_cut bs)
  where
    by : (is : Bool) → slice_split (λ x. nat_eq x 10) bs ≡ all_lines (cut bs)
        → cond is ([] ∷ slice_split (λ x. nat_eq x 10) bs) (onto_first b (slice_split (λ x. nat_eq x 10) bs)) ≡ all_lines (cond is ([] ∷ (cut bs).0, (cut bs).1) (in_front b (cut bs)))
    by true e = ap (λ (ls : List (List ℕ)). [] ∷ ls) e
    by false e = ap (onto_first b) e ∙ first_more b (cut bs)

-- after whole lines
all_glued : (ls : List (List ℕ)) (c : List (List ℕ) × List ℕ) → all_lines (glue (ls, []) c) ≡ ls ++ all_lines c
unfolding all_lines
all_glued ls ([], r) = refl
all_glued ls (m ∷ ms, r) = append_assoc ls (m ∷ ms) (r ∷ [])

get_after : (xs ys : List (List ℕ)) (n : ℕ) → length xs ≤ n → slice_get (xs ++ ys) n ≡ slice_get ys (n - length xs)
get_after [] ys n low = ap (slice_get ys) (omega arith)
get_after (x ∷ xs) ys zero low = absurd (omega (arith, low))
get_after (x ∷ xs) ys (suc n) low = get_after xs ys n (omega (arith, low)) ∙ ap (slice_get ys) (omega (arith, low))

-- after a text whose last line has ended
found_after : (front bytes : List ℕ) (ls : List (List ℕ)) (n : ℕ) → cut front ≡ (ls, []) → length ls ≤ n → line_after (front ++ bytes) n ≡ line_after bytes (n - length ls)
found_after front bytes ls n e low =
    let all : slice_split (λ b. nat_eq b 10) (front ++ bytes) ≡ ls ++ slice_split (λ b. nat_eq b 10) bytes =
    split_is_cut (front ++ bytes) ∙ ap all_lines (cut-append front bytes ∙ ap (λ c. glue c (cut bytes)) e) ∙ all_glued ls (cut bytes)
    ∙ ap (λ xs. ls ++ xs) (sym (split_is_cut bytes)) in
    ap (λ xs. slice_get xs n) all ∙ get_after ls (slice_split (λ b. nat_eq b 10) bytes) n low

-- ---- what has ended of bytes

-- the front of bytes up to the last end, where they are cut so
record Ended (bs : List ℕ) (c : List (List ℕ) × List ℕ) : Type 0 where
  front : List ℕ
  whole : bs ≡ front ++ c.1
  ends : cut front ≡ (c.0, [])

nothing : (bs : List ℕ) → cut bs ≡ ([], []) → bs ≡ []
nothing bs none = sym (all_unended bs (ap (λ (c : List (List ℕ) × List ℕ). length c.0) none)) ∙ ap (λ (c : List (List ℕ) × List ℕ). c.1) none

ended : (bs : List ℕ) → Ended bs (cut bs)
ended [] = record { front = []; whole = refl; ends = refl }
ended (b ∷ bs) = by (nat_eq b 10) refl (cut bs) (ended bs)
  where
    by : (is : Bool) → is ≡ nat_eq b 10 → (c : List (List ℕ) × List ℕ) → Ended bs c → Ended (b ∷ bs) (cond is ([] ∷ c.0, c.1) (in_front b c))
    by true e c h = record { front = b ∷ h.front; whole = ap (λ xs. b ∷ xs) h.whole; ends = rw (sym e, h.ends) refl }
    by false e ([], r) h = record { front = []; whole = ap (λ xs. b ∷ xs) (h.whole ∙ ap (λ xs. xs ++ r) (nothing h.front h.ends)); ends = refl }
    by false e (l ∷ ls, r) h = record { front = b ∷ h.front; whole = ap (λ xs. b ∷ xs) h.whole; ends = rw (sym e, h.ends) refl }

-- ---- pieces

-- what is kept of bytes stands after whole lines of them
record IsKept (given : List ℕ) (v : LinesView) : Type 0 where
  front : List ℕ
  lines : List (List ℕ)
  whole : given ≡ front ++ v.bytes
  ends : cut front ≡ (lines, [])
  count : v.before ≡ u64_saturate (length lines)

glue_ended : (ls ms : List (List ℕ)) → glue (ls, []) (ms, []) ≡ (ls ++ ms, [])
glue_ended ls [] = λ i. (sym (append-nil ls) i, [])
glue_ended ls (m ∷ ms) = refl

keeps : (given piece : List ℕ) (v : LinesView) → IsKept given v → IsKept (given ++ piece) (kept_with false v piece)
keeps given piece v k =
    let e = ended v.bytes in
    let rest = (cut v.bytes).1 in
    let more = (cut v.bytes).0 in
    record {
      front = k.front ++ e.front;
      lines = k.lines ++ more;
      whole = ap (λ xs. xs ++ piece) (k.whole ∙ ap (λ xs. k.front ++ xs) e.whole) ∙ append_assoc k.front (e.front ++ rest) piece ∙ ap (λ xs. k.front ++ xs) (append_assoc e.front rest piece)
          ∙ sym (append_assoc k.front e.front (rest ++ piece));
      ends = cut-append k.front e.front ∙ ap (λ c. glue c (cut e.front)) k.ends ∙ ap (glue (k.lines, [])) e.ends ∙ glue_ended k.lines more;
      count = omega (arith, k.count, length-append k.lines more);
    }

all_kept : (pieces : List (List ℕ)) (given : List ℕ) (v : LinesView) → IsKept given v → IsKept (given ++ concat pieces) (fold (kept_with false) v pieces)
all_kept [] given v k = subst (λ g. IsKept g v) (sym (append-nil given)) k
all_kept (p ∷ ps) given v k =
    subst (λ g. IsKept g (fold (kept_with false) (kept_with false v p) ps)) (append_assoc given p (concat ps)) (all_kept ps (given ++ p) (kept_with false v p) (keeps given p v k))

pub found_in_kept : (pieces : List (List ℕ)) (lines : ℕ) → (kept_of pieces).before ≤ lines → lines < 2 ^ 64 - 1
    → line_after (concat pieces) lines ≡ line_after (kept_of pieces).bytes (lines - (kept_of pieces).before)
found_in_kept pieces lines low few =
    let k = all_kept pieces [] no_lines (record { front = []; lines = []; whole = refl; ends = refl; count = refl }) in
    let v = kept_of pieces in
    let count : v.before ≡ u64_saturate (length k.lines) = k.count in
    let same : length k.lines ≡ v.before = omega (arith, count, low, few) in
    ap (λ bs. line_after bs lines) k.whole ∙ found_after k.front v.bytes k.lines lines k.ends (omega (arith, same, low)) ∙ ap (λ n. line_after v.bytes (lines - n)) same
