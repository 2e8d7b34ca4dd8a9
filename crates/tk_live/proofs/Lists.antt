-- Lists one by one, and marked ones.
use Rattle.std.proofs.Common.{◌≡◌, ℕ, zero, suc, ◌-◌, ◌<◌, ◌≤◌, Bool, true, false, not, cond, List, [], ◌∷◌, ◌++◌, length, Some, refl, ap, ◌∙◌, arith}
use Rattle.std.specs.Prelude.{map, slice_get}
use Rattle.std.specs.List.{AllByRecursion, items_where_true}
use Rattle.std.proofs.lemmas.List.{map-append, length-map}

-- one more, marked or not
pub picked_push : {X : Type 0} (bs : List Bool) (xs : List X) (b : Bool) (x : X) → length bs ≡ length xs → items_where_true (bs ++ b ∷ []) (xs ++ x ∷ []) ≡ items_where_true bs xs ++ cond b (x ∷ []) []
picked_push [] [] true x e = refl
picked_push [] [] false x e = refl
picked_push [] (y ∷ ys) b x e = absurd (omega (arith, e))
picked_push (c ∷ cs) [] b x e = absurd (omega (arith, e))
picked_push (true ∷ cs) (y ∷ ys) b x e = ap (λ zs. y ∷ zs) (picked_push cs ys b x (omega (arith, e)))
picked_push (false ∷ cs) (y ∷ ys) b x e = picked_push cs ys b x (omega (arith, e))

-- the same of what isn't marked
pub left_push : {X : Type 0} (bs : List Bool) (xs : List X) (b : Bool) (x : X) → length bs ≡ length xs → items_where_true (map not (bs ++ b ∷ [])) (xs ++ x ∷ []) ≡ items_where_true (map not bs) xs ++ cond (not b) (x ∷ []) []
left_push bs xs b x e =
    ap (λ l. items_where_true l (xs ++ x ∷ [])) (map-append not bs (b ∷ [])) ∙ picked_push (map not bs) xs (not b) x (length-map bs not ∙ e)

-- no more than there are
pub picked_few : {X : Type 0} (bs : List Bool) (xs : List X) → length (items_where_true bs xs) ≤ length bs
picked_few [] xs = omega arith
picked_few (b ∷ bs) [] = omega arith
picked_few (true ∷ bs) (x ∷ xs) = let le = picked_few bs xs in omega (arith, le)
picked_few (false ∷ bs) (x ∷ xs) = let le = picked_few bs xs in omega (arith, le)

-- what stands at a place stays there, and one more stands after all
pub stays_at : {X : Type 0} (xs : List X) (x : X) (i : ℕ) → i < length xs → slice_get (xs ++ x ∷ []) i ≡ slice_get xs i
stays_at [] x i lt = absurd (omega (arith, lt))
stays_at (y ∷ ys) x zero lt = refl
stays_at (y ∷ ys) x (suc i) lt = stays_at ys x i (omega (arith, lt))

pub last_at : {X : Type 0} (xs : List X) (x : X) → slice_get (xs ++ x ∷ []) (length xs) ≡ Some x
last_at [] x = refl
last_at (y ∷ ys) x = last_at ys x

-- what holds of all, and of one more
pub all_push : {X : Type 0} (P : X → Type 0) (xs : List X) (x : X) → AllByRecursion P xs → P x → AllByRecursion P (xs ++ x ∷ [])
all_push P [] x all one = (one, tt)
all_push P (y ∷ ys) x all one = (all.0, all_push P ys x all.1 one)

-- what follows of each
pub all_so : {X : Type 0} (P Q : X → Type 0) (goes : (x : X) → P x → Q x) (xs : List X) → AllByRecursion P xs → AllByRecursion Q xs
all_so P Q goes [] all = tt
all_so P Q goes (x ∷ xs) all = (goes x all.0, all_so P Q goes xs all.1)
