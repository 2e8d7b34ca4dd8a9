-- Bytes that are held: what a step does to them, and that it leaves what is still given.
use Rattle.std.proofs.Common.{◌≡◌, ℕ, ◌+◌, ◌-◌, ◌<◌, ◌≤◌, List, [], ◌∷◌, ◌++◌, length, take, drop, Bool, true, false, refl, ap, ap₂, sym, ◌∙◌, subst, append_assoc, arith, length-take, length-drop}
use Rattle.std.specs.List.{slice_range}
use Rattle.std.proofs.lemmas.List.{drop-drop, drop-append-le, take_all, take_rest, take_at, take-append-drop}
use Rattle.std.proofs.Math.Seq.{take-add, drop-length}
use Rattle.tk_stream.specs.Spelling.{is_one_line}
use Rattle.tk_client.specs.Meaning.{cut}
use Rattle.tk_until.specs.Front.{is_later, lines_until}
use Rattle.tk_until.specs.Held.{HeldView, InOrder, begun_with, given_until, held_of}
use Rattle.tk_until.proofs.Fronts.{cut-part, begun-nil, first_line}

-- ---- slices

slice_join : (xs : List ℕ) (a b c : ℕ) → a ≤ b → b ≤ c → slice_range xs a c ≡ slice_range xs a b ++ slice_range xs b c
slice_join xs a b c low high =
    let n : c - a ≡ (b - a) + (c - b) = omega arith in
    let m : a + (b - a) ≡ b = omega arith in
    ap (λ k. take k (drop a xs)) n ∙ take-add (b - a) (c - b) (drop a xs)
    ∙ ap (λ l. take (b - a) (drop a xs) ++ take (c - b) l) (drop-drop (b - a) a xs ∙ ap (λ k. drop k xs) m)

slice_none : (xs : List ℕ) (a : ℕ) → slice_range xs a a ≡ []
slice_none xs a = let n : a - a ≡ 0 = omega arith in ap (λ k. take k (drop a xs)) n

-- ---- no end was found

module _ (until : ℕ) (xs : List ℕ) (g j k : ℕ) (order : InOrder xs g j k) where
  pub none_same : (e : Bool) → e ≡ false → is_one_line (take (length xs - k) (drop k xs)) ≡ true → (rest : List ℕ)
      → given_until until (held_of xs g j (length xs) e) rest ≡ given_until until (held_of xs g j k e) rest
  none_same e unended none rest =
      let one : is_one_line (drop k xs) ≡ true = ap is_one_line (sym (take_rest xs k)) ∙ none in
      let all : slice_range xs j (length xs) ≡ slice_range xs j k ++ drop k xs = slice_join xs j k (length xs) order.1 order.2 ∙ ap (λ l. slice_range xs j k ++ l) (take_rest xs k) in
      rw (unended, all, drop-length xs) (ap (λ ls. slice_range xs g j ++ lines_until until ls) (sym (cut-part (slice_range xs j k) (drop k xs) rest one)))

-- ---- an end was found

module _ (until : ℕ) (xs : List ℕ) (g j k i : ℕ) (order : InOrder xs g j k)
    (within : i < length (take (length xs - k) (drop k xs)))
    (before : is_one_line (take i (take (length xs - k) (drop k xs))) ≡ true)
    (through : take (i + 1) (take (length xs - k) (drop k xs)) ≡ take i (take (length xs - k) (drop k xs)) ++ 10 ∷ []) where
  below : k + i + 1 ≤ length xs
  below = omega (arith, length-take (length xs - k) (drop k xs), length-drop k xs, within)

  one : is_one_line (take i (drop k xs)) ≡ true
  one = ap (λ l. is_one_line (take i l)) (sym (take_rest xs k)) ∙ before

  more_is : drop k xs ≡ take i (drop k xs) ++ 10 ∷ drop (k + i + 1) xs
  more_is =
      let ends : take (i + 1) (drop k xs) ≡ take i (drop k xs) ++ 10 ∷ [] = subst (λ (l : List ℕ). take (i + 1) l ≡ take i l ++ 10 ∷ []) (take_rest xs k) through in
      let n : k + (i + 1) ≡ k + i + 1 = omega arith in
      sym (take-append-drop (i + 1) (drop k xs)) ∙ ap₂ (λ (a b : List ℕ). a ++ b) ends (drop-drop (i + 1) k xs ∙ ap (λ m. drop m xs) n)
      ∙ append_assoc (take i (drop k xs)) (10 ∷ []) (drop (k + i + 1) xs)

  line_is : slice_range xs j (k + i) ≡ slice_range xs j k ++ take i (drop k xs)
  line_is =
      let n : k + i - k ≡ i = omega arith in
      slice_join xs j k (k + i) order.1 (omega arith) ∙ ap (λ m. slice_range xs j k ++ take m (drop k xs)) n

  -- the lines that are still to come
  coming : (rest : List ℕ) → begun_with (slice_range xs j k) (cut (drop k xs ++ rest)).0 ≡ slice_range xs j (k + i) ∷ (cut (drop (k + i + 1) xs ++ rest)).0
  coming rest =
      ap (λ (l : List ℕ). begun_with (slice_range xs j k) (cut (l ++ rest)).0) more_is ∙ first_line (slice_range xs j k) (take i (drop k xs)) (drop (k + i + 1) xs) rest one
      ∙ ap (λ (l : List ℕ). l ∷ (cut (drop (k + i + 1) xs ++ rest)).0) (sym line_is)

  pub later_same : (e : Bool) → e ≡ false → is_later until (slice_range xs j (k + i)) ≡ true → (rest : List ℕ)
      → given_until until (held_of xs g j (k + i + 1) true) rest ≡ given_until until (held_of xs g j k e) rest
  later_same e unended later rest = rw (unended, coming rest, later) refl

  judged_is : slice_range xs g (k + i + 1) ≡ slice_range xs g j ++ (slice_range xs j (k + i) ++ 10 ∷ [])
  judged_is =
      let low : g ≤ j = order.0 in
      let mid : j ≤ k = order.1 in
      let n : k + i + 1 - (k + i) ≡ 1 = omega arith in
      slice_join xs g j (k + i + 1) low (omega arith)
      ∙ ap (λ l. slice_range xs g j ++ l) (slice_join xs j (k + i) (k + i + 1) (omega arith) (omega arith)
      ∙ ap (λ l. slice_range xs j (k + i) ++ l) (ap (λ m. take m (drop (k + i) xs)) n ∙ end_is))
    where
      end_is : take 1 (drop (k + i) xs) ≡ 10 ∷ []
      end_is = ap (take 1) (sym (drop-drop i k xs) ∙ ap (drop i) more_is ∙ at_line)
        where
          at_line : drop i (take i (drop k xs) ++ 10 ∷ drop (k + i + 1) xs) ≡ 10 ∷ drop (k + i + 1) xs
          at_line =
              let len : length (take i (drop k xs)) ≡ i = omega (arith, length-take i (drop k xs), length-drop k xs, below) in
              let le : i ≤ length (take i (drop k xs)) = omega arith in
              drop-append-le i (take i (drop k xs)) (10 ∷ drop (k + i + 1) xs) le
              ∙ ap (λ l. l ++ 10 ∷ drop (k + i + 1) xs) (ap (λ m. drop m (take i (drop k xs))) (sym len) ∙ drop-length (take i (drop k xs)))

  pub passed_same : (e : Bool) → e ≡ false → is_later until (slice_range xs j (k + i)) ≡ false → (rest : List ℕ)
      → given_until until (held_of xs g (k + i + 1) (k + i + 1) e) rest ≡ given_until until (held_of xs g j k e) rest
  passed_same e unended later rest =
      let to_come = lines_until until (cut (drop (k + i + 1) xs ++ rest)).0 in
      rw (unended, coming rest, later, slice_none xs (k + i + 1), begun-nil (cut (drop (k + i + 1) xs ++ rest)).0, judged_is)
      (append_assoc (slice_range xs g j) (slice_range xs j (k + i) ++ 10 ∷ []) to_come
      ∙ ap (λ l. slice_range xs g j ++ l) (append_assoc (slice_range xs j (k + i)) (10 ∷ []) to_come))

-- the same, as the code has it: the texts are slices of what `now` holds, and what is held is seen by view
module _ (until : ℕ) (xs now now2 : List ℕ) (g j k i : ℕ) (e later : Bool) (v : HeldView) (order : InOrder xs g j k) (same : now ≡ xs) (same2 : now2 ≡ xs)
    (within : i < length (take (length now - k) (drop k now)))
    (before : is_one_line (take i (take (length now - k) (drop k now))) ≡ true)
    (through : take (i + 1) (take (length now - k) (drop k now)) ≡ take i (take (length now - k) (drop k now)) ++ 10 ∷ [])
    (is : later ≡ is_later until (take (k + i - j) (drop j now2))) (view : held_of xs g j k e ≡ v) (going : v.ended ≡ false) where
  on : e ≡ false
  on = ap (λ (w : HeldView). w.ended) view ∙ going

  is_here : is_later until (slice_range xs j (k + i)) ≡ later
  is_here = ap (λ (l : List ℕ). is_later until (take (k + i - j) (drop j l))) (sym same2) ∙ sym is

  within_here : i < length (take (length xs - k) (drop k xs))
  within_here = subst (λ (l : List ℕ). i < length (take (length l - k) (drop k l))) same within

  before_here : is_one_line (take i (take (length xs - k) (drop k xs))) ≡ true
  before_here = subst (λ (l : List ℕ). is_one_line (take i (take (length l - k) (drop k l))) ≡ true) same before

  through_here : take (i + 1) (take (length xs - k) (drop k xs)) ≡ take i (take (length xs - k) (drop k xs)) ++ 10 ∷ []
  through_here = subst (λ (l : List ℕ). take (i + 1) (take (length l - k) (drop k l)) ≡ take i (take (length l - k) (drop k l)) ++ 10 ∷ []) same through

  pub later_line : later ≡ true → (rest : List ℕ) → given_until until (held_of xs g j (k + i + 1) true) rest ≡ given_until until v rest
  later_line h rest =
      later_same until xs g j k i order within_here before_here through_here e on (is_here ∙ h) rest ∙ ap (λ (w : HeldView). given_until until w rest) view

  pub passed_line : later ≡ false → (rest : List ℕ) → given_until until (held_of xs g (k + i + 1) (k + i + 1) e) rest ≡ given_until until v rest
  passed_line h rest =
      passed_same until xs g j k i order within_here before_here through_here e on (is_here ∙ h) rest ∙ ap (λ (w : HeldView). given_until until w rest) view

-- and where no end was found
pub no_line : (until : ℕ) (xs now : List ℕ) (g j k all : ℕ) (e : Bool) (v : HeldView) → InOrder xs g j k → now ≡ xs → all ≡ length xs
    → is_one_line (take (length now - k) (drop k now)) ≡ true → held_of xs g j k e ≡ v → v.ended ≡ false → (rest : List ℕ)
    → given_until until (held_of xs g j all e) rest ≡ given_until until v rest
no_line until xs now g j k all e v order same long none view going rest =
    ap (λ (n : ℕ). given_until until (held_of xs g j n e) rest) long
    ∙ none_same until xs g j k order e (ap (λ (w : HeldView). w.ended) view ∙ going) (subst (λ (l : List ℕ). is_one_line (take (length l - k) (drop k l)) ≡ true) same none) rest
    ∙ ap (λ (w : HeldView). given_until until w rest) view

-- ---- bytes were given

pub gives_front : (xs buf copied : List ℕ) (g j n : ℕ) → g + n ≤ j → j ≤ length xs → copied ≡ take (g + n - g) (drop g xs)
    → slice_range xs g j ≡ take n (copied ++ drop n buf) ++ slice_range xs (g + n) j
gives_front xs buf copied g j n low high is =
    let len : length copied ≡ n = ap length is ∙ length-take (g + n - g) (drop g xs) ∙ omega (arith, length-drop g xs) in
    slice_join xs g (g + n) j (omega arith) low ∙ ap (λ l. l ++ slice_range xs (g + n) j) (sym is ∙ sym (take_at copied (drop n buf) n len))

-- ---- bytes were read

-- the room for a read stands after the bytes
pub resized : (old grown pad : List ℕ) (len more : ℕ) → length old ≡ len → grown ≡ take (len + more) old ++ pad → take len grown ≡ old
resized old grown pad len more is grows =
    let all : length old ≤ len + more = omega arith in
    ap (take len) (grows ∙ ap (λ l. l ++ pad) (take_all (len + more) old all)) ∙ take_at old pad len is

-- what was read is kept of it
pub cut_back : (old grown new : List ℕ) (len n : ℕ) → take len grown ≡ old → take len new ≡ take len grown → take (len + n) new ≡ old ++ take n (drop len new)
cut_back old grown new len n front same = take-add len n new ∙ ap (λ l. l ++ take n (drop len new)) (same ∙ front)

pub read-len : (new : List ℕ) (len n : ℕ) → len + n ≤ length new → length (take n (drop len new)) ≡ n
read-len new len n within = omega (arith, length-take n (drop len new), length-drop len new)
