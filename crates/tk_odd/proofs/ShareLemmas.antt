-- No more is shared out than was waited.
use Rattle.std.proofs.Common.{◌≡◌, ℕ, zero, suc, ◌+◌, ◌-◌, ◌*◌, ◌/◌, ◌≤◌, List, [], ◌∷◌, refl, ap, sym, ◌∙◌, arith, lit<}
use Rattle.std.specs.Prelude.{sum_by, Bool, true, false, cond, ◌&&◌, nat_le}
use Rattle.std.proofs.Math.Nat.{add-mul, mul-add, mul_comm, div-mul-le_self, min-le_right, mul-le-mul_left, mul-le-mul_right, le_trans}
use Rattle.std.proofs.lemmas.Nat.{le-div}
use Rattle.std.proofs.lemmas.List.Sums.{sum_by-cons, sum_by-le-sum_by}
use Rattle.tk_odd.specs.declared.moved.Moved.{Moved}
use Rattle.tk_odd.specs.Charging.{Splits, apart_parts, blame_of, charge_of, ran_long}
use Rattle.tk_odd.specs.Sharing.{Conserves, all_parts, all_ran, held_by, part_in, part_of, whole}

-- a product by the rest of a number, and by what that was less
whole_product : (a b m : ℕ) → b ≤ m → a * (m - b) + b * a ≡ a * m
whole_product a b m h =
    let e : (m - b) + b ≡ m = omega (arith, h) in
    let two = mul-add a (m - b) b in
    let turned = mul_comm b a in
    ap (λ n. a * (m - b) + n) turned ∙ sym two ∙ ap (λ n. a * n) e

-- the same, added up
pub sums_product : {A : Type 0} (f g : A → ℕ) (m : ℕ) (xs : List A) → sum_by g xs ≤ m
    → sum_by (λ x. f x * (m - g x)) xs + sum_by (λ x. g x * f x) xs ≡ sum_by f xs * m
sums_product f g m [] h = omega arith
sums_product f g m (x ∷ xs) h =
    let a = sum_by-cons (λ y. f y * (m - g y)) x xs in
    let b = sum_by-cons (λ y. g y * f y) x xs in
    let c = sum_by-cons f x xs in
    let d = sum_by-cons g x xs in
    let rest = sums_product f g m xs (omega (arith, d, h)) in
    let one = whole_product (f x) (g x) m (omega (arith, d, h)) in
    let right : sum_by f (x ∷ xs) * m ≡ f x * m + sum_by f xs * m = ap (λ n. n * m) c ∙ add-mul (f x) (sum_by f xs) m in
    omega (arith, a, b, rest, one, right)

-- products in the other order, added up
turned_sum : {A : Type 0} (f g : A → ℕ) (xs : List A) → sum_by (λ x. g x * f x) xs ≡ sum_by (λ x. f x * g x) xs
turned_sum f g [] = refl
turned_sum f g (x ∷ xs) =
    let a = sum_by-cons (λ y. g y * f y) x xs in
    let b = sum_by-cons (λ y. f y * g y) x xs in
    let c = mul_comm (g x) (f x) in
    let rest = turned_sum f g xs in
    omega (arith, a, b, c, rest)

-- what each has of the others' sum, both ways round
pub both_ways : {A : Type 0} (f g : A → ℕ) (xs : List A)
    → sum_by (λ x. f x * (sum_by g xs - g x)) xs ≡ sum_by (λ x. g x * (sum_by f xs - f x)) xs
both_ways f g xs =
    let a = sums_product f g (sum_by g xs) xs (omega arith) in
    let b = sums_product g f (sum_by f xs) xs (omega arith) in
    let c = turned_sum f g xs in
    let d = mul_comm (sum_by f xs) (sum_by g xs) in
    omega (arith, a, b, c, d)

-- whole numbers of something, added up
pub floors : {A : Type 0} (f : A → ℕ) (w : ℕ) (xs : List A) → sum_by (λ x. f x / w) xs * w ≤ sum_by f xs
floors f w [] = omega arith
floors f w (x ∷ xs) =
    let a = sum_by-cons (λ y. f y / w) x xs in
    let b = sum_by-cons f x xs in
    let one = div-mul-le_self (f x) w in
    let rest = floors f w xs in
    let left : sum_by (λ y. f y / w) (x ∷ xs) * w ≡ f x / w * w + sum_by (λ y. f y / w) xs * w =
    ap (λ n. n * w) a ∙ add-mul (f x / w) (sum_by (λ y. f y / w) xs) w in
    omega (arith, b, one, rest, left)

-- a sum of multiples
multiples : {A : Type 0} (f : A → ℕ) (w : ℕ) (xs : List A) → sum_by (λ x. f x * w) xs ≡ sum_by f xs * w
multiples f w [] = omega arith
multiples f w (x ∷ xs) =
    let a = sum_by-cons (λ y. f y * w) x xs in
    let b : sum_by f (x ∷ xs) * w ≡ f x * w + sum_by f xs * w = ap (λ n. n * w) (sum_by-cons f x xs) ∙ add-mul (f x) (sum_by f xs) w in
    omega (arith, a, b, multiples f w xs)

-- a part of a time is no more than what was waited
pub part_within : (waited time : ℕ) → part_of waited time * time ≤ waited * whole
part_within waited zero = omega arith
part_within waited (suc n) =
    let a = mul-le-mul_right (suc n) (min-le_right whole (waited * whole / suc n)) in
    let b = div-mul-le_self (waited * whole) (suc n) in
    le_trans a b

-- no more is shared out than was waited
pub conserves : (moved : List Moved) → Conserves moved
conserves moved =
    let a = floors (λ x. x.gain.ran * (all_parts moved - part_in moved x)) whole moved in
    let b = both_ways (λ (x : Moved). x.gain.ran) (part_in moved) moved in
    let c = sum_by-le-sum_by (λ x. part_in moved x * (all_ran moved - x.gain.ran)) (λ x. x.gain.waited * whole) moved (λ x. part_within x.gain.waited (all_ran moved - x.gain.ran)) in
    let d = multiples (λ (x : Moved). x.gain.waited) whole moved in
    omega (arith, a, b, c, d)

-- a task is blamed for no more than it held up
blame_within : (now : ℕ) (moved : List Moved) (x : Moved) → blame_of now moved x ≤ held_by moved x
blame_within now moved x =
    let others = all_parts moved - part_in moved x in
    let less : others - apart_parts now moved x ≤ others = omega arith in
    let product = mul-le-mul_left x.gain.ran less in
    le-div (blame_of now moved x) (x.gain.ran * others) whole (lit< tt) (le_trans (div-mul-le_self (x.gain.ran * (others - apart_parts now moved x)) whole) product)

-- nobody is charged with more than is shared out
charge_within : (long time now : ℕ) (moved : List Moved) (x : Moved) → charge_of long time now moved x ≤ held_by moved x
charge_within long time now moved x = by (ran_long long time x.gain && nat_le long (blame_of now moved x))
  where
    by : (b : Bool) → cond b (blame_of now moved x) 0 ≤ held_by moved x
    by true = blame_within now moved x
    by false = omega arith

-- what is charged, what is waited in a queue, and what is nobody's are together what was waited
pub splits : (long time now : ℕ) (moved : List Moved) → Splits long time now moved
splits long time now moved =
    let a = conserves moved in
    let b = sum_by-le-sum_by (charge_of long time now moved) (held_by moved) moved (charge_within long time now moved) in
    omega (arith, a, b)
