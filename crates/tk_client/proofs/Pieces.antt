-- Bytes that come in pieces.
use Rattle.std.proofs.Common.{◌≡◌, ℕ, ◌+◌, ◌-◌, ◌≤◌, List, [], ◌∷◌, ◌++◌, length, Bool, true, false, cond, nat_lt, nat_eq, Result, Ok, Err, refl, ap, ap₂, sym, ◌∙◌, append_assoc, length-append, arith}
use Rattle.std.proofs.lemmas.Bool.{ltb-false, lt-ltb}
use borrow.Author.Tests.{ltb-true}
use Rattle.tk_stream.specs.Tables.{TablesView}
use Rattle.tk_client.specs.declared.fault.Fault.{Fault}
use Rattle.tk_client.specs.declared.fault.Fault.TheVariants.{TooLong}
use Rattle.tk_client.specs.Meaning.{Start, Outcome, goes, stops, line_taken, in_front, cut, after, is_too_long, too_long, held, ended, run, meaning}

-- the lines of two pieces, where the second begins in the rest of the first
abbrev pub glue : List (List ℕ) × List ℕ → List (List ℕ) × List ℕ → List (List ℕ) × List ℕ
glue (ls, r) ([], rest) = (ls, r ++ rest)
glue (ls, r) (m ∷ ms, rest) = (ls ++ (r ++ m) ∷ ms, rest)

glue-nil : (c : List (List ℕ) × List ℕ) → glue ([], []) c ≡ c
glue-nil ([], rest) = refl
glue-nil (m ∷ ms, rest) = refl

front-glue : (b : ℕ) (c d : List (List ℕ) × List ℕ) → in_front b (glue c d) ≡ glue (in_front b c) d
front-glue b ([], r) ([], rest) = refl
front-glue b ([], r) (m ∷ ms, rest) = refl
front-glue b (l ∷ ls, r) ([], rest) = refl
front-glue b (l ∷ ls, r) (m ∷ ms, rest) = refl

end-glue : (c d : List (List ℕ) × List ℕ) → ([] ∷ (glue c d).0, (glue c d).1) ≡ glue ([] ∷ c.0, c.1) d
end-glue (ls, r) ([], rest) = refl
end-glue (ls, r) (m ∷ ms, rest) = refl

pub cut-append : (a b : List ℕ) → cut (a ++ b) ≡ glue (cut a) (cut b)
cut-append [] b = sym (glue-nil (cut b))
cut-append (x ∷ a) b = by (nat_eq x 10) (cut-append a b)
  where
    by : (is : Bool) → cut (a ++ b) ≡ glue (cut a) (cut b)
        → cond is ([] ∷ (cut (a ++ b)).0, (cut (a ++ b)).1) (in_front x (cut (a ++ b))) ≡ glue (cond is ([] ∷ (cut a).0, (cut a).1) (in_front x (cut a))) (cut b)
    by true e = ap (λ (c : List (List ℕ) × List ℕ). ([] ∷ c.0, c.1)) e ∙ end-glue (cut a) (cut b)
    by false e = ap (in_front x) e ∙ front-glue x (cut a) (cut b)

-- how many bytes lines and a rest are
abbrev pub size : List (List ℕ) → List ℕ → ℕ
size [] r = length r
size (l ∷ ls) r = length l + 1 + size ls r

size-front : (b : ℕ) (c : List (List ℕ) × List ℕ) → size (in_front b c).0 (in_front b c).1 ≡ 1 + size c.0 c.1
size-front b ([], r) = omega arith
size-front b (l ∷ ls, r) = omega arith

pub size-cut : (a : List ℕ) → size (cut a).0 (cut a).1 ≡ length a
size-cut [] = refl
size-cut (x ∷ a) = by (nat_eq x 10) (size-cut a)
  where
    by : (is : Bool) → size (cut a).0 (cut a).1 ≡ length a → size (cond is ([] ∷ (cut a).0, (cut a).1) (in_front x (cut a))).0 (cond is ([] ∷ (cut a).0, (cut a).1) (in_front x (cut a))).1 ≡ length (x ∷ a)
    by true e = omega arith
    by false e = omega (arith, size-front x (cut a))

pub after-after : (a b c d : ℕ) (o : Outcome) → after a b (after c d o) ≡ after (a + c) (b + d) o
after-after a b c d (goes s n) = ap (goes s) (omega arith)
after-after a b c d (stops tables n fault used) = ap₂ (λ i j. stops tables i fault j) (omega arith) (omega arith)

after_goes : (k : ℕ) (o : Outcome) (t : Start) (n : ℕ) → after 1 k o ≡ goes t n → (m : ℕ) × (o ≡ goes t m) × (1 + m ≡ n)
after_goes k (goes s m) t n e = (m, (cc), (cc))
after_goes k (stops tables m fault used) t n e = absurd (cc)

ended-after : (tables : TablesView) (k : ℕ) (r : Result Start Fault) (f g : Start → Outcome) (t : Start) (n bytes : ℕ) (o : Outcome)
    → ((u : Start) (m : ℕ) → f u ≡ goes t m → g u ≡ after m bytes o) → ended tables k r f ≡ goes t n → ended tables k r g ≡ after n (k + bytes) o
ended-after tables k (Ok u) f g t n bytes o h e =
    let p = after_goes k (f u) t n e in
    ap (after 1 k) (h u p.0 p.1) ∙ after-after 1 k p.0 bytes o ∙ ap (λ x. after x (k + bytes) o) p.2
ended-after tables k (Err fault) f g t n bytes o h e = absurd (cc)

-- a test that didn't stop
passed : (b : Bool) (tables : TablesView) (fault : Fault) (used : ℕ) (x y o : Outcome) (t : Start) (n : ℕ)
    → cond b (stops tables 0 fault used) x ≡ goes t n → (b ≡ false → x ≡ goes t n → y ≡ o) → cond b (stops tables 0 fault used) y ≡ o
passed true tables fault used x y o t n e h = absurd (cc)
passed false tables fault used x y o t n e h = h refl e

-- bytes after a part line that has them in front
held-more : (max : ℕ) (s : Start) (r rest : List ℕ) → length (s.part ++ r) ≤ max → held max s (r ++ rest) ≡ after 0 (length r) (held max (record s { part = s.part ++ r }) rest)
held-more max s r rest short =
    rw (append_assoc s.part r rest) (by (nat_lt max (length (s.part ++ (r ++ rest)))))
  where
    by : (b : Bool) → cond b (stops s.tables 0 TooLong (max + 1 - length s.part)) (goes (record s { part = s.part ++ (r ++ rest) }) 0)
        ≡ after 0 (length r) (cond b (stops s.tables 0 TooLong (max + 1 - length (s.part ++ r))) (goes (record s { part = s.part ++ (r ++ rest) }) 0))
    by true = ap (stops s.tables 0 TooLong) (omega (arith, length-append s.part r))
    by false = refl

run-more : (max : ℕ) (s : Start) (r m : List ℕ) (ms : List (List ℕ)) (rest : List ℕ) → length (s.part ++ r) ≤ max
    → run max s ((r ++ m) ∷ ms) rest ≡ after 0 (length r) (run max (record s { part = s.part ++ r }) (m ∷ ms) rest)
run-more max s r m ms rest short =
    rw (append_assoc s.part r m) (by (nat_lt max (length (s.part ++ (r ++ m)))) (line_taken s.tables s.times s.last (s.part ++ (r ++ m))))
  where
    by : (b : Bool) (q : Result Start Fault) → cond b (stops s.tables 0 TooLong (max + 1 - length s.part)) (ended s.tables (length (r ++ m) + 1) q (λ t. run max t ms rest))
        ≡ after 0 (length r) (cond b (stops s.tables 0 TooLong (max + 1 - length (s.part ++ r))) (ended s.tables (length m + 1) q (λ t. run max t ms rest)))
    by true q = ap (stops s.tables 0 TooLong) (omega (arith, length-append s.part r))
    by false (Ok t) = ap (λ k. after 1 k (run max t ms rest)) (omega (arith, length-append r m)) ∙ sym (after-after 0 (length r) 1 (length m + 1) (run max t ms rest))
    by false (Err fault) = ap (stops s.tables 0 fault) (omega (arith, length-append r m))

is_held : (max : ℕ) (s : Start) (r : List ℕ) (t : Start) (n : ℕ) → held max s r ≡ goes t n → (length (s.part ++ r) ≤ max) × (record s { part = s.part ++ r } ≡ t) × (0 ≡ n)
is_held max s r t n = by (nat_lt max (length (s.part ++ r))) refl
  where
    by : (b : Bool) → nat_lt max (length (s.part ++ r)) ≡ b → cond b (too_long max s) (goes (record s { part = s.part ++ r }) 0) ≡ goes t n
        → (length (s.part ++ r) ≤ max) × (record s { part = s.part ++ r } ≡ t) × (0 ≡ n)
    by true is e = absurd (cc)
    by false is e = (ltb-false _ _ is, (cc), (cc))

run-glue : (max : ℕ) (ls : List (List ℕ)) (r : List ℕ) (d : List (List ℕ) × List ℕ) (s t : Start) (n : ℕ)
    → run max s ls r ≡ goes t n → run max s (glue (ls, r) d).0 (glue (ls, r) d).1 ≡ after n (size ls r) (run max t d.0 d.1)
run-glue max [] r ([], rest) s t n e =
    let p = is_held max s r t n e in
    held-more max s r rest p.0 ∙ ap₂ (λ u k. after k (length r) (held max u rest)) p.1 p.2
run-glue max [] r (m ∷ ms, rest) s t n e =
    let p = is_held max s r t n e in
    run-more max s r m ms rest p.0 ∙ ap₂ (λ u k. after k (length r) (run max u (m ∷ ms) rest)) p.1 p.2
run-glue max (l ∷ ls) r ([], rest) s t n e =
    passed (is_too_long max s l) s.tables TooLong (max + 1 - length s.part) _ _ _ t n e
    (λ short f. ended-after s.tables (length l + 1) (line_taken s.tables s.times s.last (s.part ++ l)) (λ u. run max u ls r) (λ u. run max u ls (r ++ rest)) t n (size ls r) (held max t rest)
    (λ u k h. run-glue max ls r ([], rest) u t k h) f)
run-glue max (l ∷ ls) r (m ∷ ms, rest) s t n e =
    passed (is_too_long max s l) s.tables TooLong (max + 1 - length s.part) _ _ _ t n e
    (λ short f. ended-after s.tables (length l + 1) (line_taken s.tables s.times s.last (s.part ++ l)) (λ u. run max u ls r) (λ u. run max u (ls ++ (r ++ m) ∷ ms) rest) t n (size ls r) (run max t (m ∷ ms) rest)
    (λ u k h. run-glue max ls r (m ∷ ms, rest) u t k h) f)

-- bytes after bytes without a fault
pub meaning-append : (max : ℕ) (s t : Start) (a b : List ℕ) (lines : ℕ) → meaning max s a ≡ goes t lines → meaning max s (a ++ b) ≡ after lines (length a) (meaning max t b)
meaning-append max s t a b lines e =
    ap (λ (c : List (List ℕ) × List ℕ). run max s c.0 c.1) (cut-append a b)
    ∙ run-glue max (cut a).0 (cut a).1 (cut b) s t lines e
    ∙ ap (λ k. after lines k (meaning max t b)) (size-cut a)

-- ---- faults

after_stops : (k : ℕ) (o p : Outcome) (t : TablesView) (n : ℕ) (fault : Fault) (used : ℕ) → ((m v : ℕ) → o ≡ stops t m fault v → p ≡ stops t m fault v)
    → after 1 k o ≡ stops t n fault used → after 1 k p ≡ stops t n fault used
after_stops k (goes s m) p t n fault used h e = absurd (cc)
after_stops k (stops tables m other v) p t n fault used h e = ap (after 1 k) (h m v (cc)) ∙ (cc)

ended_stops : (tables : TablesView) (k : ℕ) (r : Result Start Fault) (f g : Start → Outcome) (t : TablesView) (n : ℕ) (fault : Fault) (used : ℕ)
    → ((u : Start) (m v : ℕ) → f u ≡ stops t m fault v → g u ≡ stops t m fault v) → ended tables k r f ≡ stops t n fault used → ended tables k r g ≡ stops t n fault used
ended_stops tables k (Ok u) f g t n fault used h e = after_stops k (f u) (g u) t n fault used (h u) e
ended_stops tables k (Err other) f g t n fault used h e = e

-- a test that stops both, or neither
both : (b : Bool) (x y z w : Outcome) → (y ≡ w → z ≡ w) → cond b x y ≡ w → cond b x z ≡ w
both true x y z w h e = e
both false x y z w h e = h e

longer : (max : ℕ) (s : Start) (r more : List ℕ) → nat_lt max (length (s.part ++ r)) ≡ true → nat_lt max (length (s.part ++ (r ++ more))) ≡ true
longer max s r more h = lt-ltb _ _ (omega (arith, ltb-true max _ h, length-append s.part r, length-append s.part (r ++ more), length-append r more))

is_stopped : (max : ℕ) (s : Start) (r : List ℕ) (x : Outcome) (t : TablesView) (n : ℕ) (fault : Fault) (used : ℕ) → held max s r ≡ stops t n fault used
    → (nat_lt max (length (s.part ++ r)) ≡ true) × (too_long max s ≡ stops t n fault used)
is_stopped max s r x t n fault used = by (nat_lt max (length (s.part ++ r))) refl
  where
    by : (b : Bool) → nat_lt max (length (s.part ++ r)) ≡ b → cond b (too_long max s) (goes (record s { part = s.part ++ r }) 0) ≡ stops t n fault used
        → (nat_lt max (length (s.part ++ r)) ≡ true) × (too_long max s ≡ stops t n fault used)
    by true is e = (is, e)
    by false is e = absurd (cc)

stops-glue : (max : ℕ) (ls : List (List ℕ)) (r : List ℕ) (d : List (List ℕ) × List ℕ) (s : Start) (t : TablesView) (n : ℕ) (fault : Fault) (used : ℕ)
    → run max s ls r ≡ stops t n fault used → run max s (glue (ls, r) d).0 (glue (ls, r) d).1 ≡ stops t n fault used
stops-glue max [] r ([], rest) s t n fault used e =
    let p = is_stopped max s r (too_long max s) t n fault used e in
    ap (λ b. cond b (too_long max s) (goes (record s { part = s.part ++ (r ++ rest) }) 0)) (longer max s r rest p.0) ∙ p.1
stops-glue max [] r (m ∷ ms, rest) s t n fault used e =
    let p = is_stopped max s r (too_long max s) t n fault used e in
    ap (λ b. cond b (too_long max s) (ended s.tables (length (r ++ m) + 1) (line_taken s.tables s.times s.last (s.part ++ (r ++ m))) (λ u. run max u ms rest))) (longer max s r m p.0) ∙ p.1
stops-glue max (l ∷ ls) r ([], rest) s t n fault used e =
    both (is_too_long max s l) (too_long max s) _ _ _
    (ended_stops s.tables (length l + 1) (line_taken s.tables s.times s.last (s.part ++ l)) (λ u. run max u ls r) (λ u. run max u ls (r ++ rest)) t n fault used
    (λ u m v h. stops-glue max ls r ([], rest) u t m fault v h)) e
stops-glue max (l ∷ ls) r (m ∷ ms, rest) s t n fault used e =
    both (is_too_long max s l) (too_long max s) _ _ _
    (ended_stops s.tables (length l + 1) (line_taken s.tables s.times s.last (s.part ++ l)) (λ u. run max u ls r) (λ u. run max u (ls ++ (r ++ m) ∷ ms) rest) t n fault used
    (λ u k v h. stops-glue max ls r (m ∷ ms, rest) u t k fault v h)) e

-- what stands after a fault changes nothing
pub stops-append : (max : ℕ) (s : Start) (a b : List ℕ) (t : TablesView) (n used : ℕ) (fault : Fault) → meaning max s a ≡ stops t n fault used → meaning max s (a ++ b) ≡ stops t n fault used
stops-append max s a b t n used fault e =
    ap (λ (c : List (List ℕ) × List ℕ). run max s c.0 c.1) (cut-append a b) ∙ stops-glue max (cut a).0 (cut a).1 (cut b) s t n fault used e
