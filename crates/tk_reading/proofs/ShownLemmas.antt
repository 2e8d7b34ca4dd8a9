-- What is shown after each line of bytes that come in pieces.
use Rattle.std.proofs.Common.{◌≡◌, ℕ, suc, ◌+◌, ◌-◌, ◌<◌, ◌≤◌, List, [], ◌∷◌, ◌++◌, length, Bool, true, false, cond, Result, Ok, Err, refl, ap, sym, ◌∙◌, append_assoc, append-nil, arith, subst}
use Rattle.std.specs.Prelude.{OnOk}
use Rattle.tk_stream.specs.Tables.{TablesView, empty_tables}
use Rattle.tk_client.specs.declared.fault.Fault.{Fault}
use Rattle.tk_client.specs.declared.fault.Fault.TheVariants.{TooLong}
use Rattle.tk_client.specs.Feeding.{ClientView, Took}
use Rattle.tk_client.specs.Meaning.{Start, Outcome, goes, stops, line_taken, cut, after, is_too_long, held, ended, run, meaning, empty_start, greatest_line}
use Rattle.tk_client.specs.Changes.{ChangeView, IsChange, Leads, Timed, timed_in, untimed}
use Rattle.tk_client.proofs.Pieces.{glue, cut-append}
use Rattle.tk_reading.specs.Taken.{HasTaken}
use Rattle.tk_reading.specs.Shown.{last_shown, last_timed, shown_of, tables_of, timed_by, timed_from, timed_of}

-- a test that didn't stop
passed : (b : Bool) (tables : TablesView) (fault : Fault) (used : ℕ) (x : Outcome) (t : Start) (n : ℕ) → cond b (stops tables 0 fault used) x ≡ goes t n → x ≡ goes t n
passed true tables fault used x t n e = absurd (cc)
passed false tables fault used x t n e = e

-- bytes without a line end go on from the start that has them in front
held_is : (max : ℕ) (s : Start) (r : List ℕ) (t : Start) (n : ℕ) → held max s r ≡ goes t n → (record s { part = s.part ++ r } ≡ t) × (0 ≡ n)
held_is max s r t n e = let f = passed (is_too_long max s r) s.tables TooLong (max + 1 - length s.part) (goes (record s { part = s.part ++ r }) 0) t n e in ((cc), (cc))

after_goes : (k : ℕ) (o : Outcome) (t : Start) (n : ℕ) → after 1 k o ≡ goes t n → (m : ℕ) × (o ≡ goes t m) × (1 + m ≡ n)
after_goes k (goes s m) t n e = (m, (cc), (cc))
after_goes k (stops tables m fault used) t n e = absurd (cc)

-- what is shown after the lines of two pieces: those of the first, and those of the second from where it leads
timed-glue : (max : ℕ) (ls : List (List ℕ)) (r : List ℕ) (d : List (List ℕ) × List ℕ) (s t : Start) (n : ℕ) → run max s ls r ≡ goes t n
    → timed_from s (glue (ls, r) d).0 ≡ timed_from s ls ++ timed_from t d.0
timed-glue max [] r ([], rest) s t n e = refl
timed-glue max [] r (m ∷ ms, rest) s t n e =
    let p = held_is max s r t n e in
    ap (λ l. timed_by (line_taken s.tables s.times s.last l) (λ u. timed_from u ms)) (sym (append_assoc s.part r m))
    ∙ ap (λ (u : Start). timed_from u (m ∷ ms)) p.0
timed-glue max (l ∷ ls) r ([], rest) s t n e =
    by (line_taken s.tables s.times s.last (s.part ++ l)) (passed (is_too_long max s l) s.tables TooLong (max + 1 - length s.part) _ t n e)
  where
    by : (q : Result Start Fault) → ended s.tables (length l + 1) q (λ u. run max u ls r) ≡ goes t n → timed_by q (λ u. timed_from u ls) ≡ timed_by q (λ u. timed_from u ls) ++ []
    by q f = sym (append-nil (timed_by q (λ u. timed_from u ls)))
timed-glue max (l ∷ ls) r (m ∷ ms, rest) s t n e =
    by (line_taken s.tables s.times s.last (s.part ++ l)) (passed (is_too_long max s l) s.tables TooLong (max + 1 - length s.part) _ t n e)
    (λ u k. timed-glue max ls r (m ∷ ms, rest) u t k)
  where
    by : (q : Result Start Fault) → ended s.tables (length l + 1) q (λ u. run max u ls r) ≡ goes t n
        → ((u : Start) (k : ℕ) → run max u ls r ≡ goes t k → timed_from u (ls ++ (r ++ m) ∷ ms) ≡ timed_from u ls ++ timed_from t (m ∷ ms))
        → timed_by q (λ u. timed_from u (ls ++ (r ++ m) ∷ ms)) ≡ timed_by q (λ u. timed_from u ls) ++ timed_from t (m ∷ ms)
    by (Ok u) f more = let p = after_goes (length l + 1) (run max u ls r) t n f in ap (λ xs. timed_in u ∷ xs) (more u p.0 p.1)
    by (Err fault) f more = absurd (cc)

pub timed-append : (max : ℕ) (s t : Start) (a b : List ℕ) (n : ℕ) → meaning max s a ≡ goes t n → timed_from s (cut (a ++ b)).0 ≡ timed_from s (cut a).0 ++ timed_from t (cut b).0
timed-append max s t a b n e =
    ap (λ (c : List (List ℕ) × List ℕ). timed_from s c.0) (cut-append a b) ∙ timed-glue max (cut a).0 (cut a).1 (cut b) s t n e

-- there are as many as lines that were applied
timed-length : (max : ℕ) (ls : List (List ℕ)) (r : List ℕ) (s t : Start) (n : ℕ) → run max s ls r ≡ goes t n → length (timed_from s ls) ≡ n
timed-length max [] r s t n e = (held_is max s r t n e).1
timed-length max (l ∷ ls) r s t n e =
    by (line_taken s.tables s.times s.last (s.part ++ l)) (passed (is_too_long max s l) s.tables TooLong (max + 1 - length s.part) _ t n e)
    (λ u k. timed-length max ls r u t k)
  where
    by : (q : Result Start Fault) → ended s.tables (length l + 1) q (λ u. run max u ls r) ≡ goes t n
        → ((u : Start) (k : ℕ) → run max u ls r ≡ goes t k → length (timed_from u ls) ≡ k) → length (timed_by q (λ u. timed_from u ls)) ≡ n
    by (Ok u) f more = let p = after_goes (length l + 1) (run max u ls r) t n f in omega (arith, more u p.0 p.1, p.2)
    by (Err fault) f more = absurd (cc)

pub timed_count : (front : List ℕ) (lines : ℕ) (now : ClientView) → HasTaken front lines now → length (timed_of front) ≡ lines
timed_count front lines now h = timed-length greatest_line (cut front).0 (cut front).1 empty_start now.start lines h.took.came

-- of one line at most
one-timed : (max : ℕ) (ls : List (List ℕ)) (r : List ℕ) (s t : Start) (n : ℕ) → length ls ≤ 1 → run max s ls r ≡ goes t n → 0 < n → timed_from s ls ≡ timed_in t ∷ []
one-timed max [] r s t n few e some = absurd (omega (arith, (held_is max s r t n e).1))
one-timed max (l ∷ []) r s t n few e some =
    by (line_taken s.tables s.times s.last (s.part ++ l)) (passed (is_too_long max s l) s.tables TooLong (max + 1 - length s.part) _ t n e)
  where
    by : (q : Result Start Fault) → ended s.tables (length l + 1) q (λ u. run max u [] r) ≡ goes t n → timed_by q (λ u. timed_from u []) ≡ timed_in t ∷ []
    by (Ok u) f =
        let p = after_goes (length l + 1) (run max u [] r) t n f in
        let h = held_is max u r t p.0 p.1 in
        ap (λ (v : Start). timed_in v ∷ []) h.0
    by (Err fault) f = absurd (cc)
one-timed max (l ∷ m ∷ ls) r s t n few e some = absurd (omega (arith, few))

none-timed : (xs : List Timed) → length xs ≡ 0 → xs ≡ []
none-timed [] h = refl
none-timed (x ∷ xs) h = absurd (omega arith)

-- a piece of one line at most, which ended it
pub one_more : (front piece : List ℕ) (lines more : ℕ) (old new : ClientView) → HasTaken front lines old → Took old piece more new → length (cut piece).0 ≤ 1 → 0 < more
    → timed_of (front ++ piece) ≡ timed_of front ++ timed_in new.start ∷ []
one_more front piece lines more old new h took few some =
    timed-append greatest_line empty_start old.start front piece lines h.took.came
    ∙ ap (λ xs. timed_of front ++ xs) (one-timed old.max_line (cut piece).0 (cut piece).1 old.start new.start more few took.came some)

-- or did not
pub none_more : (front piece : List ℕ) (lines more : ℕ) (old new : ClientView) → HasTaken front lines old → Took old piece more new → more ≡ 0
    → timed_of (front ++ piece) ≡ timed_of front
none_more front piece lines more old new h took none =
    timed-append greatest_line empty_start old.start front piece lines h.took.came
    ∙ ap (λ xs. timed_of front ++ xs) (none-timed (timed_from old.start (cut piece).0) (timed-length old.max_line (cut piece).0 (cut piece).1 old.start new.start more took.came ∙ none))
    ∙ append-nil (timed_of front)

-- ---- the last of them

last-by : (max : ℕ) (ls : List (List ℕ)) (r : List ℕ) (s t : Start) (n : ℕ) → run max s ls r ≡ goes t n → last_timed (timed_in s) (timed_from s ls) ≡ timed_in t
last-by max [] r s t n e = ap timed_in (held_is max s r t n e).0
last-by max (l ∷ ls) r s t n e =
    by (line_taken s.tables s.times s.last (s.part ++ l)) (passed (is_too_long max s l) s.tables TooLong (max + 1 - length s.part) _ t n e)
    (λ u k. last-by max ls r u t k)
  where
    by : (q : Result Start Fault) → ended s.tables (length l + 1) q (λ u. run max u ls r) ≡ goes t n
        → ((u : Start) (k : ℕ) → run max u ls r ≡ goes t k → last_timed (timed_in u) (timed_from u ls) ≡ timed_in t)
        → last_timed (timed_in s) (timed_by q (λ u. timed_from u ls)) ≡ timed_in t
    by (Ok u) f more = let p = after_goes (length l + 1) (run max u ls r) t n f in more u p.0 p.1
    by (Err fault) f more = absurd (cc)

-- what a client shows that has taken bytes
pub last_taken : (front : List ℕ) (lines : ℕ) (now : ClientView) → HasTaken front lines now → last_timed untimed (timed_of front) ≡ timed_in now.start
last_taken front lines now h = last-by greatest_line (cut front).0 (cut front).1 empty_start now.start lines h.took.came

-- ---- the tables alone

pub tables-append : (xs ys : List Timed) → tables_of (xs ++ ys) ≡ tables_of xs ++ tables_of ys
tables-append [] ys = refl
tables-append (x ∷ xs) ys = ap (λ zs. x.0 ∷ zs) (tables-append xs ys)

pub tables-length : (xs : List Timed) → length (tables_of xs) ≡ length xs
tables-length [] = refl
tables-length (x ∷ xs) = ap suc (tables-length xs)

pub shown-append : (max : ℕ) (s t : Start) (a b : List ℕ) (n : ℕ) → meaning max s a ≡ goes t n
    → tables_of (timed_from s (cut (a ++ b)).0) ≡ tables_of (timed_from s (cut a).0) ++ tables_of (timed_from t (cut b).0)
shown-append max s t a b n e = ap tables_of (timed-append max s t a b n e) ∙ tables-append (timed_from s (cut a).0) (timed_from t (cut b).0)

pub shown_count : (front : List ℕ) (lines : ℕ) (now : ClientView) → HasTaken front lines now → length (shown_of front) ≡ lines
shown_count front lines now h = tables-length (timed_of front) ∙ timed_count front lines now h

-- what holds of the tables once there is one line more
pub seen_more : {E : Type 0} (P : List TablesView → Type 0) (r : Result (Unit {0}) E) (seen : List Timed) (t : Timed) → OnOk r (P (tables_of seen ++ t.0 ∷ [])) → OnOk r (P (tables_of (seen ++ t ∷ [])))
seen_more P r seen t h = subst (λ (xs : List TablesView). OnOk r (P xs)) (sym (tables-append seen (t ∷ []))) h

pub seen_few : (n : ℕ) (seen : List Timed) → length seen ≤ n → length (tables_of seen) ≤ n
seen_few n seen few = omega (arith, few, tables-length seen)

-- the last of tables and one more is that one
pub last_more : (old : TablesView) (shown : List TablesView) (t : TablesView) → last_shown old (shown ++ t ∷ []) ≡ t
last_more old [] t = refl
last_more old (s ∷ shown) t = last_more s shown t

-- the tables of what was shown last are the last tables
pub last_tables : (old : Timed) (seen : List Timed) → last_shown old.0 (tables_of seen) ≡ (last_timed old seen).0
last_tables old [] = refl
last_tables old (t ∷ seen) = last_tables t seen

-- what a line changed leads from the tables that were shown last
pub leads : (seen : List Timed) (now : Timed) (change : ChangeView) → IsChange (last_timed untimed seen) now change → Leads (last_shown empty_tables (tables_of seen)) now.0 change
leads seen now change is = let last = last_timed untimed seen in
    subst (λ (t : TablesView). Leads t now.0 change) (sym (last_tables untimed seen))
    (let from : IsChange (last.0, last.1) (now.0, now.1) change = is in record { times_before = last.1; times_after = now.1; is = from })
