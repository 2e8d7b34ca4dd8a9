-- Rising fronts of bytes.
use Rattle.std.proofs.Common.{◌≡◌, ℕ, ◌+◌, ◌≤◌, ◌<◌, List, [], ◌∷◌, ◌++◌, length, Bool, true, false, cond, Some, Result, Ok, Err, refl, ap, sym, ◌∙◌, append_assoc, append-nil, arith, subst}
use Rattle.tk_client.specs.declared.fault.Fault.{Fault}
use Rattle.tk_client.specs.Meaning.{Outcome, Start, goes, stops, meaning, run, after, ended, empty_start, is_too_long, line_taken, too_long, greatest_line}
use Rattle.tk_client.proofs.Pieces.{meaning-append, stops-append}
use Rattle.tk_reading.specs.Outcomes.{outcome_of}
use Rattle.tk_stream.specs.Tables.{TablesView}
use Rattle.tk_reading.specs.Fronts.{IsFront, Rise, last_lines, lines_in, tables_in}

-- ---- bytes that end no line leave the tables

goes_same : (a b : Start) (m n : ℕ) → goes a m ≡ goes b n → a ≡ b
goes_same a b m n e = cc

not_after : (k : ℕ) (o : Outcome) (t : Start) → after 1 k o ≡ goes t 0 → ⊥
not_after k (goes s m) t e = let lines : 1 + m ≡ 0 = ap lines_in e in omega arith
not_after k (stops tables m fault used) t e = cc

not_ended : (tables : TablesView) (k : ℕ) (r : Result Start Fault) (f : Start → Outcome) (t : Start) → ended tables k r f ≡ goes t 0 → ⊥
not_ended tables k (Ok s) f t e = not_after k (f s) t e
not_ended tables k (Err fault) f t e = cc

none_run : (max : ℕ) (s t : Start) (ls : List (List ℕ)) (rest : List ℕ) → run max s ls rest ≡ goes t 0 → t.tables ≡ s.tables
none_run max s t [] rest e = by (is_too_long max s rest) e
  where
    by : (b : Bool) → cond b (too_long max s) (goes (record s { part = s.part ++ rest }) 0) ≡ goes t 0 → t.tables ≡ s.tables
    by true h = absurd (cc)
    by false h = let same : record s { part = s.part ++ rest } ≡ t = goes_same _ _ _ _ h in sym (ap (λ (u : Start). u.tables) same)
none_run max s t (l ∷ ls) rest e = by (is_too_long max s l) e
  where
    by : (b : Bool) → cond b (too_long max s) (ended s.tables (length l + 1) (line_taken s.tables s.times s.last (s.part ++ l)) (λ u. run max u ls rest)) ≡ goes t 0 → t.tables ≡ s.tables
    by true h = absurd (cc)
    by false h = absurd (not_ended s.tables (length l + 1) (line_taken s.tables s.times s.last (s.part ++ l)) (λ u. run max u ls rest) t h)

none_applied : (max : ℕ) (s t : Start) (bytes : List ℕ) → meaning max s bytes ≡ goes t 0 → t.tables ≡ s.tables
none_applied max s t bytes e = none_run max s t _ _ e

-- ---- a front of bytes without a fault

after_goes : (m k : ℕ) (o : Outcome) (t : Start) (n : ℕ) → after m k o ≡ goes t n → (i : ℕ) × (o ≡ goes t i) × (m + i ≡ n)
after_goes m k (goes s i) t n e = (i, ap (λ u. goes u i) (goes_same s t (m + i) n e), ap lines_in e)
after_goes m k (stops tables i fault used) t n e = absurd (cc)

module _ (front more : List ℕ) (t : Start) (n : ℕ) (whole : outcome_of (front ++ more) ≡ goes t n) where
  -- it has no more lines
  pub front_few : lines_in (outcome_of front) ≤ n
  front_few = by (outcome_of front) refl
    where
      by : (o : Outcome) → outcome_of front ≡ o → lines_in o ≤ n
      by (goes s m) e =
          let p = after_goes m (length front) (meaning greatest_line s more) t n (sym (meaning-append greatest_line empty_start s front more m e) ∙ whole) in
          let sum : m + p.0 ≡ n = p.2 in omega arith
      by (stops tables m fault used) e = absurd (no (sym (stops-append greatest_line empty_start front more tables m used fault e) ∙ whole))
        where
          no : stops tables m fault used ≡ goes t n → ⊥
          no h = cc

  -- and where it has as many, the same tables
  pub front_same : n ≤ lines_in (outcome_of front) → tables_in (outcome_of front) ≡ t.tables
  front_same = by (outcome_of front) refl
    where
      by : (o : Outcome) → outcome_of front ≡ o → n ≤ lines_in o → tables_in o ≡ t.tables
      by (goes s m) e few =
          let p = after_goes m (length front) (meaning greatest_line s more) t n (sym (meaning-append greatest_line empty_start s front more m e) ∙ whole) in
          let sum : m + p.0 ≡ n = p.2 in
          let none : p.0 ≡ 0 = omega arith in
          sym (none_applied greatest_line s t more (p.1 ∙ ap (goes t) none))
      by (stops tables m fault used) e few = absurd (no (sym (stops-append greatest_line empty_start front more tables m used fault e) ∙ whole))
        where
          no : stops tables m fault used ≡ goes t n → ⊥
          no h = cc

-- ---- fronts

pub whole_front : (bytes : List ℕ) → IsFront bytes bytes
whole_front bytes = record { rest = []; whole = sym (append-nil bytes) }

pub front_on : (front bytes more : List ℕ) → IsFront front bytes → IsFront front (bytes ++ more)
front_on front bytes more h = record { rest = h.rest ++ more; whole = ap (λ xs. xs ++ more) h.whole ∙ append_assoc front h.rest more }

pub front_trans : (a b c : List ℕ) → IsFront a b → IsFront b c → IsFront a c
front_trans a b c h g = record { rest = h.rest ++ g.rest; whole = g.whole ∙ ap (λ xs. xs ++ g.rest) h.whole ∙ append_assoc a h.rest g.rest }

-- more bytes were read
pub rise_on : (fronts : List (List ℕ)) (bytes more : List ℕ) → Rise fronts bytes → Rise fronts (bytes ++ more)
rise_on [] bytes more h = tt
rise_on (f ∷ []) bytes more h = (front_on f bytes more h.0, tt)
rise_on (f ∷ g ∷ fs) bytes more h = (h.0, rise_on (g ∷ fs) bytes more h.1)

-- all bytes are a front more
pub rise_more : (fronts : List (List ℕ)) (bytes : List ℕ) → Rise fronts bytes → ((most : ℕ) → last_lines fronts ≡ Some most → most < lines_in (outcome_of bytes))
    → Rise (fronts ++ bytes ∷ []) bytes
rise_more [] bytes h below = (whole_front bytes, tt)
rise_more (f ∷ []) bytes h below = ((h.0, below _ refl), (whole_front bytes, tt))
rise_more (f ∷ g ∷ fs) bytes h below = (h.0, rise_more (g ∷ fs) bytes h.1 below)

pub last_more : (fronts : List (List ℕ)) (bytes : List ℕ) → last_lines (fronts ++ bytes ∷ []) ≡ Some (lines_in (outcome_of bytes))
last_more [] bytes = refl
last_more (f ∷ []) bytes = refl
last_more (f ∷ g ∷ fs) bytes = last_more (g ∷ fs) bytes

-- ---- the last front, and all bytes in its place

split_last : (fronts : List (List ℕ)) (lines : ℕ) → last_lines fronts ≡ Some lines → (init : List (List ℕ)) × (last : List ℕ) × (fronts ≡ init ++ last ∷ []) × (lines_in (outcome_of last) ≡ lines)
split_last [] lines e = absurd (cc)
split_last (f ∷ []) lines e = ([], f, refl, same (lines_in (outcome_of f)) lines e)
  where
    same : (a b : ℕ) → Some a ≡ Some b → a ≡ b
    same a b h = cc
split_last (f ∷ g ∷ fs) lines e = let r = split_last (g ∷ fs) lines e in (f ∷ r.0, r.1, ap (λ xs. f ∷ xs) r.2, r.3)

last_front : (init : List (List ℕ)) (last bytes : List ℕ) → Rise (init ++ last ∷ []) bytes → IsFront last bytes
last_front [] last bytes h = h.0
last_front (f ∷ fs) last bytes h = last_front fs last bytes h.1

in_its_place : (init : List (List ℕ)) (last bytes : List ℕ) → IsFront last bytes → lines_in (outcome_of last) ≤ lines_in (outcome_of bytes) → Rise (init ++ last ∷ []) bytes → Rise (init ++ bytes ∷ []) bytes
in_its_place [] last bytes front few h = (whole_front bytes, tt)
in_its_place (f ∷ []) last bytes front few h = let less = h.0.1 in ((front_trans f last bytes h.0.0 front, omega arith), (whole_front bytes, tt))
in_its_place (f ∷ g ∷ fs) last bytes front few h = (h.0, in_its_place (g ∷ fs) last bytes front few h.1)

-- where the last front has all lines, all bytes are as well the last
pub record Ended (fronts : List (List ℕ)) (bytes : List ℕ) : Type 0 where
  pub init : List (List ℕ)
  pub last : List ℕ
  pub rise : Rise (init ++ bytes ∷ []) bytes
  pub split : fronts ≡ init ++ last ∷ []
  pub same : tables_in (outcome_of last) ≡ tables_in (outcome_of bytes)

pub ends_at_all : (fronts : List (List ℕ)) (bytes : List ℕ) (t : Start) (n most : ℕ) → Rise fronts bytes → last_lines fronts ≡ Some most → n ≤ most → outcome_of bytes ≡ goes t n → Ended fronts bytes
ends_at_all fronts bytes t n most rise is few come =
    let p = split_last fronts most is in
    let risen : Rise (p.0 ++ p.1 ∷ []) bytes = subst (λ fs. Rise fs bytes) p.2 rise in
    let front = last_front p.0 p.1 bytes risen in
    let whole : outcome_of (p.1 ++ front.rest) ≡ goes t n = subst (λ xs. outcome_of xs ≡ goes t n) front.whole come in
    let lines : lines_in (outcome_of bytes) ≡ n = ap lines_in come in
    let below = front_few p.1 front.rest t n whole in
    let counted : lines_in (outcome_of p.1) ≡ most = p.3 in
    record {
      init = p.0;
      last = p.1;
      rise = in_its_place p.0 p.1 bytes front (omega arith) risen;
      split = p.2;
      same = front_same p.1 front.rest t n whole (omega arith) ∙ sym (ap tables_in come);
    }
