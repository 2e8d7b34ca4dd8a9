-- What the words ask for, by what a parse finds in them.
use Rattle.std.proofs.Common.{◌≡◌, Bool, cond, true, false, true≢false, ap, ap₂, sym, ◌∙◌, ◌⊎◌, [], ◌∷◌, List, ℕ, Option, Some, None, is_some, subst, unwrap_or, inl, inr}
use Rattle.std.specs.Option.{option_map, option_map_or}
use Rattle.std.specs.List.{list_all}
use Rattle.clap.specs.Faults.{fault_of}
use Rattle.clap.specs.Kinds.{HasKind, IsAmong, Kinds, or_else}
use Rattle.clap.specs.Simple.{subcommand_of}
use Rattle.clap.specs.Values.{kind_of}
use Rattle.clap.specs.declared.error.Error.{Error}
use Rattle.clap.specs.declared.error.kind.ErrorKind.{ErrorKind}
use Rattle.clap.specs.declared.error.kind.ErrorKind.TheVariants.{InvalidValue, OutOfMemory}
use Rattle.clap.proofs.WalkLemmas.{both}
use Rattle.taskscope.specs.Requests.{is_mistake, names_nothing, program, refusals}

pub some_is : {A : Type 0} (x y : A) → Some x ≡ Some y → x ≡ y
some_is x y e = ap (λ o. unwrap_or o x) e

-- what holds of both parts of a value, where it is there and its parts are these
pub both_parts : {B X Y : Type 0} (n : B → X) (r : B → Y) (f : X → Y → Bool) (o : Option B) (x : X) (y : Y) → Some x ≡ option_map n o
    → Some y ≡ option_map (λ (p : X × Y). p.1) (option_map (λ (b : B). (n b, r b)) o) → f x y ≡ option_map_or (λ (p : X × Y). f p.0 p.1) (option_map (λ (b : B). (n b, r b)) o) false
both_parts n r f None x y g h = absurd (true≢false (ap is_some g))
both_parts n r f (Some b) x y g h = ap₂ f (some_is x (n b) g) (some_is y (r b) h)

-- ---- which kinds may come

-- where none may, memory ran out
pub memory_alone : (kinds : Kinds) (e : Error) → kinds ≡ [] → HasKind kinds e → kind_of e ≡ OutOfMemory
memory_alone kinds e none (inl memory) = memory
memory_alone kinds e none (inr among) = absurd (subst (IsAmong (kind_of e)) none among)

pub mistake_among : (k : ErrorKind) (kinds : Kinds) → list_all is_mistake kinds ≡ true → IsAmong k kinds → is_mistake k ≡ true
mistake_among k [] all none = absurd none
mistake_among k (x ∷ xs) all (inl here) = ap is_mistake here ∙ (both (is_mistake x) (list_all is_mistake xs) all).0
mistake_among k (x ∷ xs) all (inr later) = mistake_among k xs (both (is_mistake x) (list_all is_mistake xs) all).1 later

-- ---- what a parse refuses, and a name of nothing that there is

first_has : (a b : Kinds) (e : Error) → HasKind a e → HasKind (or_else a b) e
first_has [] b e (inl memory) = inl memory
first_has [] b e (inr among) = absurd among
first_has (k ∷ ks) b e has = has

pub parse_refuses : (words : List (List ℕ)) (e : Error) → HasKind (fault_of program words) e → HasKind (refusals words) e
parse_refuses words e = first_has (fault_of program words) _ e

refusals_where : (words : List (List ℕ)) (b : Bool) → fault_of program words ≡ [] → names_nothing (subcommand_of program words) ≡ b
    → refusals words ≡ cond b (InvalidValue ∷ []) []
refusals_where words b none named = ap₂ or_else none (ap (λ x. cond x (InvalidValue ∷ []) []) named)

pub none_refuses : (words : List (List ℕ)) → fault_of program words ≡ [] → names_nothing (subcommand_of program words) ≡ false → refusals words ≡ []
none_refuses words = refusals_where words false

pub name_refuses : (words : List (List ℕ)) (e : Error) → fault_of program words ≡ [] → names_nothing (subcommand_of program words) ≡ true
    → (kind_of e ≡ OutOfMemory) ⊎ (kind_of e ≡ InvalidValue) → HasKind (refusals words) e
name_refuses words e none named kind = subst (λ ks. HasKind ks e) (sym (refusals_where words true none named)) (elim kind [ inl memory ↦ inl memory | inr value ↦ inr (inl value) ])
