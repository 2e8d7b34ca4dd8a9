-- The lines of a text, and its front up to a moment.
use Rattle.std.proofs.Common.{◌≡◌, ℕ, ◌≤◌, List, [], ◌∷◌, ◌++◌, Bool, true, false, cond, nat_lt, nat_eq, Option, Some, None, Ok, Err, refl, ap, sym, subst, ◌∙◌, append_assoc, append-nil, arith}
use Rattle.std.specs.List.{list_all}
use Rattle.std.specs.Option.{option_map_or}
use Rattle.std.proofs.lemmas.Bool.{and_parts, ltb-false, le-ltb}
use borrow.Author.Tests.{eqb-true}
use Rattle.tk_stream.specs.declared.error.LineError.{LineError}
use Rattle.tk_stream.specs.declared.error.LineError.TheVariants.{BadJson, BadShape}
use Rattle.tk_stream.specs.Lines.{LineView}
use Rattle.tk_stream.specs.Outcome.{Fails}
use Rattle.tk_stream.specs.Reading.{line_of_text}
use Rattle.tk_stream.specs.Spelling.{is_one_line}
use Rattle.tk_client.specs.Meaning.{in_front, cut}
use Rattle.tk_client.proofs.Pieces.{glue, cut-append}
use Rattle.tk_client.proofs.Ends.{cut-no_end}
use Rattle.tk_until.specs.Front.{moment, is_later, lines_until, front, BeginsWith, none_later, BeginLater}
use Rattle.tk_until.specs.Held.{begun_with}

-- ---- one line

pub later_read : (until : ℕ) (text : List ℕ) (line : LineView) → line_of_text text ≡ Ok line → is_later until text ≡ nat_lt until line.now
unfolding is_later moment
later_read until text line is = rw is refl

pub fault_read : (until : ℕ) (text : List ℕ) (e : LineError) → line_of_text text ≡ Err e → is_later until text ≡ false
unfolding is_later moment
fault_read until text e is = rw is refl

pub no_json : (until : ℕ) (text : List ℕ) (e : LineError) → e ≡ BadJson → Fails e (line_of_text text) → false ≡ is_later until text
no_json until text e is h = sym (fault_read until text BadJson (subst (λ (x : LineError). Fails x (line_of_text text)) is h))

pub no_shape : (until : ℕ) (text : List ℕ) (e : LineError) → e ≡ BadShape → Fails e (line_of_text text) → false ≡ is_later until text
no_shape until text e is h = sym (fault_read until text BadShape (subst (λ (x : LineError). Fails x (line_of_text text)) is h))

later_still : (earlier later : ℕ) (line : List ℕ) → earlier ≤ later → is_later earlier line ≡ false → is_later later line ≡ false
unfolding is_later
later_still earlier later line below h = by (moment line) h
  where
    by : (m : Option ℕ) → option_map_or (nat_lt earlier) m false ≡ false → option_map_or (nat_lt later) m false ≡ false
    by None h = refl
    by (Some m) h = let up : m ≤ earlier = ltb-false earlier m h in le-ltb later m (omega arith)

-- ---- the lines of a text

-- lines with their ends
abbrev pub joined : List (List ℕ) → List ℕ
joined [] = []
joined (l ∷ ls) = l ++ 10 ∷ joined ls

joined-append : (a b : List (List ℕ)) → joined (a ++ b) ≡ joined a ++ joined b
joined-append [] b = refl
joined-append (l ∷ a) b = ap (λ xs. l ++ 10 ∷ xs) (joined-append a b) ∙ sym (append_assoc l (10 ∷ joined a) (joined b))

-- a text is its lines and what stands after them
whole : (text : List ℕ) → text ≡ joined (cut text).0 ++ (cut text).1
whole [] = refl
whole (b ∷ bs) = by (nat_eq b 10) refl (cut bs) (whole bs)
  where
    by : (is : Bool) → nat_eq b 10 ≡ is → (c : List (List ℕ) × List ℕ) → bs ≡ joined c.0 ++ c.1
        → b ∷ bs ≡ joined (cond is ([] ∷ c.0, c.1) (in_front b c)).0 ++ (cond is ([] ∷ c.0, c.1) (in_front b c)).1
    by true is c h = ap (λ x. x ∷ bs) (eqb-true b 10 is) ∙ ap (λ xs. 10 ∷ xs) h
    by false is ([], r) h = ap (λ xs. b ∷ xs) h
    by false is (l ∷ ls, r) h = ap (λ xs. b ∷ xs) h

-- no end stands in them
all_whole : (text : List ℕ) → (list_all is_one_line (cut text).0 ≡ true) × (is_one_line (cut text).1 ≡ true)
all_whole [] = (refl, refl)
all_whole (b ∷ bs) = by (nat_eq b 10) refl (cut bs) (all_whole bs)
  where
    by : (is : Bool) → nat_eq b 10 ≡ is → (c : List (List ℕ) × List ℕ) → (list_all is_one_line c.0 ≡ true) × (is_one_line c.1 ≡ true)
        → (list_all is_one_line (cond is ([] ∷ c.0, c.1) (in_front b c)).0 ≡ true) × (is_one_line (cond is ([] ∷ c.0, c.1) (in_front b c)).1 ≡ true)
    by true is c h = h
    by false is ([], r) h = (refl, rw is h.1)
    by false is (l ∷ ls, r) h = (rw is h.0, h.1)

-- bytes without an end begin the first line
pub cut-part : (part xs r : List ℕ) → is_one_line xs ≡ true → begun_with part (cut (xs ++ r)).0 ≡ begun_with (part ++ xs) (cut r).0
cut-part part xs r h =
    ap (λ (c : List (List ℕ) × List ℕ). begun_with part c.0) (cut-append xs r ∙ ap (λ (c : List (List ℕ) × List ℕ). glue c (cut r)) (cut-no_end xs h)) ∙ by (cut r)
  where
    by : (c : List (List ℕ) × List ℕ) → begun_with part (glue ([], xs) c).0 ≡ begun_with (part ++ xs) c.0
    by ([], rest) = refl
    by (m ∷ ms, rest) = ap (λ (x : List ℕ). x ∷ ms) (sym (append_assoc part xs m))

pub begun-nil : (ls : List (List ℕ)) → begun_with [] ls ≡ ls
begun-nil [] = refl
begun-nil (l ∷ ls) = refl

-- the first line of a text whose end is known
pub first_line : (part line after rest : List ℕ) → is_one_line line ≡ true → begun_with part (cut ((line ++ 10 ∷ after) ++ rest)).0 ≡ (part ++ line) ∷ (cut (after ++ rest)).0
first_line part line after rest h =
    ap (λ (xs : List ℕ). begun_with part (cut xs).0) (append_assoc line (10 ∷ after) rest) ∙ cut-part part line (10 ∷ (after ++ rest)) h
    ∙ ap (λ (x : List ℕ). x ∷ (cut (after ++ rest)).0) (append-nil (part ++ line))

-- lines with their ends are cut into these again
cut-joined : (ls : List (List ℕ)) (r : List ℕ) → list_all is_one_line ls ≡ true → is_one_line r ≡ true → cut (joined ls ++ r) ≡ (ls, r)
cut-joined [] r h k = cut-no_end r k
cut-joined (l ∷ ls) r h k =
    let p = and_parts (is_one_line l) (list_all is_one_line ls) h in
    ap cut (append_assoc l (10 ∷ joined ls) r) ∙ cut-append l (10 ∷ (joined ls ++ r))
    ∙ ap (λ (c : List (List ℕ) × List ℕ). glue c (cut (10 ∷ (joined ls ++ r)))) (cut-no_end l p.0)
    ∙ ap (λ (x : List ℕ). (x ∷ (cut (joined ls ++ r)).0, (cut (joined ls ++ r)).1)) (append-nil l)
    ∙ ap (λ (c : List (List ℕ) × List ℕ). (l ∷ c.0, c.1)) (cut-joined ls r p.1 k)

-- ---- the front

-- lines, cut before the first that is later
record Split (until : ℕ) (ls : List (List ℕ)) : Type 0 where
  pub before : List (List ℕ)
  pub from : List (List ℕ)
  pub is : ls ≡ before ++ from
  pub lines : lines_until until ls ≡ joined before
  pub none : none_later until before ≡ true
  pub later : BeginLater until from

split : (until : ℕ) (ls : List (List ℕ)) → Split until ls
split until [] = record { before = []; from = []; is = refl; lines = refl; none = refl; later = tt }
split until (l ∷ ls) = by (is_later until l) refl (split until ls)
  where
    by : (is : Bool) → is_later until l ≡ is → Split until ls → Split until (l ∷ ls)
    by true is s = record { before = []; from = l ∷ ls; is = refl; lines = rw is refl; none = refl; later = is }
    by false is s = record {
      before = l ∷ s.before;
      from = s.from;
      is = ap (λ xs. l ∷ xs) s.is;
      lines = rw is (ap (λ xs. l ++ 10 ∷ xs) s.lines);
      none = rw is s.none;
      later = s.later;
    }

all_parts : (a b : List (List ℕ)) → list_all is_one_line (a ++ b) ≡ true → (list_all is_one_line a ≡ true) × (list_all is_one_line b ≡ true)
all_parts [] b h = (refl, h)
all_parts (l ∷ a) b h =
    let p = and_parts (is_one_line l) (list_all is_one_line (a ++ b)) h in
    let q = all_parts a b p.1 in
    (rw (p.0, q.0) refl, q.1)

module _ (until : ℕ) (text : List ℕ) where
  parts : Split until (cut text).0
  parts = split until (cut text).0

  lines_are : (list_all is_one_line (parts.before) ≡ true) × (list_all is_one_line (parts.from) ≡ true)
  lines_are = all_parts (parts.before) (parts.from) (ap (list_all is_one_line) (sym (parts.is)) ∙ (all_whole text).0)

  front_and_rest : text ≡ front (Some until) text ++ (joined (parts.from) ++ (cut text).1)
  front_and_rest =
      whole text ∙ ap (λ ls. joined ls ++ (cut text).1) (parts.is) ∙ ap (λ xs. xs ++ (cut text).1) (joined-append (parts.before) (parts.from))
      ∙ append_assoc (joined (parts.before)) (joined (parts.from)) (cut text).1
      ∙ ap (λ xs. xs ++ (joined (parts.from) ++ (cut text).1)) (sym (parts.lines))

  -- the lines of the front
  front_cut : cut (front (Some until) text) ≡ (parts.before, [])
  front_cut = ap cut (parts.lines ∙ sym (append-nil (joined (parts.before)))) ∙ cut-joined (parts.before) [] lines_are.0 refl

  pub front_lines : none_later until (cut (front (Some until) text)).0 ≡ true
  front_lines = ap (λ (c : List (List ℕ) × List ℕ). none_later until c.0) front_cut ∙ parts.none

  pub front_whole : (cut (front (Some until) text)).1 ≡ []
  front_whole = ap (λ (c : List (List ℕ) × List ℕ). c.1) front_cut

  -- what stands after the front begins with a later line, or has none
  pub front_ends : (rest : List ℕ) × (text ≡ front (Some until) text ++ rest) × BeginLater until (cut rest).0
  front_ends = (
    joined (parts.from) ++ (cut text).1,
    front_and_rest,
    rw (cut-joined (parts.from) (cut text).1 lines_are.1 (all_whole text).1) (parts.later),
  )

pub begins : (until : Option ℕ) (text : List ℕ) → BeginsWith text (front until text)
begins None text = ([], sym (append-nil text))
begins (Some until) text = let p = front_ends until text in (p.0, p.1)

pub more_lines : (earlier later : ℕ) (ls : List (List ℕ)) → earlier ≤ later → BeginsWith (lines_until later ls) (lines_until earlier ls)
more_lines earlier later [] below = ([], refl)
more_lines earlier later (l ∷ ls) below = by (is_later earlier l) refl (more_lines earlier later ls below)
  where
    by : (is : Bool) → is_later earlier l ≡ is → BeginsWith (lines_until later ls) (lines_until earlier ls)
        → BeginsWith (lines_until later (l ∷ ls)) (cond is [] (l ++ 10 ∷ lines_until earlier ls))
    by true is h = (lines_until later (l ∷ ls), refl)
    by false is h = (h.0, rw (later_still earlier later l below is) (ap (λ xs. l ++ 10 ∷ xs) h.1 ∙ sym (append_assoc l (10 ∷ lines_until earlier ls) h.0)))
