-- What a small value says of the value that was read.
use Rattle.std.proofs.Common.{◌≡◌, ◌<◌, ◌≤◌, ◌==◌, ℕ, zero, suc, List, Bool, true, false, nat_le, cond, Some, None, option_map, refl, ap, ◌∙◌, sym, arith}
use Rattle.std.specs.Ordering.{nat_cmp, match_ordering}
use Rattle.std.specs.declared.cmp.Ordering.{Ordering}
use Rattle.std.specs.declared.cmp.Ordering.TheVariants.{Less, Equal, Greater}
use Rattle.std.specs.Cmp.Lexicographic.{slice_cmp}
use Rattle.serde_json.specs.Data.{Data, null, boolean, number, string, array, object, Items, Members, no_members, member}
use Rattle.serde_json.specs.Events.{items_len, members_len}
use Rattle.serde_json.specs.Find.{get, get_member, as_number, as_str, as_bool, as_array}
use Rattle.tk_json.specs.Small.{small, small_items, small_members, nothing, has_count, KeepsScalars, KeepsMembers, KeepsItems}

pub small_members_len : (ms : Members) (n : ℕ) → members_len (small_members ms n) ≡ members_len ms
small_members_len no_members n = refl
small_members_len (member k d ms) n = ap suc (small_members_len ms n)

-- what holds of both is what a choice has
either : {A B : Type 0} (b : Bool) (f : A → B) (x y : A) (z : B) → f x ≡ z → f y ≡ z → f (cond b x y) ≡ z
either true f x y z h g = h
either false f x y z h g = g

pub scalars_kept : (d : Data) (n : ℕ) → KeepsScalars d n
scalars_kept null n = (refl, refl, refl)
scalars_kept (boolean b) n = (refl, refl, refl)
scalars_kept (number x) n = (refl, refl, refl)
scalars_kept (string s) n = (refl, refl, refl)
scalars_kept (array ds) zero = (refl, refl, refl)
scalars_kept (object ms) zero = (refl, refl, refl)
scalars_kept (array ds) (suc n) =
    let b = nat_le (items_len ds) 14 in
    let kept = array (small_items ds n) in
    (either b as_number kept nothing None refl refl, either b as_str kept nothing None refl refl, either b as_bool kept nothing None refl refl)
scalars_kept (object ms) (suc n) =
    let b = nat_le (members_len ms) 17 in
    let kept = object (small_members ms n) in
    (either b as_number kept nothing None refl refl, either b as_str kept nothing None refl refl, either b as_bool kept nothing None refl refl)

few_items : (b : Bool) (n : ℕ) (ds : Items) → as_array (cond b (array (small_items ds n)) nothing) ≡ option_map (λ es. small_items es n) (cond b (Some ds) None)
few_items true n ds = refl
few_items false n ds = refl

pub items_kept : (d : Data) (n : ℕ) → KeepsItems d n
items_kept null n = refl
items_kept (boolean b) n = refl
items_kept (number x) n = refl
items_kept (string s) n = refl
items_kept (array ds) n = few_items (nat_le (items_len ds) 14) n ds
items_kept (object ms) n = either (nat_le (members_len ms) 17) as_array (object (small_members ms n)) nothing None refl refl

get_by : (o : Ordering) (n : ℕ) (k l : List ℕ) (e : Data) (ms : Members) → get_member k (small_members ms n) ≡ option_map (λ d. small d n) (get_member k ms)
    → match_ordering o (get_member k (small_members ms n)) (Some (small e n)) (get_member k (small_members ms n)) ≡ option_map (λ d. small d n) (match_ordering o (get_member k ms) (Some e) (get_member k ms))
get_by Less n k l e ms h = h
get_by Equal n k l e ms h = refl
get_by Greater n k l e ms h = h

get_small : (n : ℕ) (k : List ℕ) (ms : Members) → get_member k (small_members ms n) ≡ option_map (λ d. small d n) (get_member k ms)
get_small n k no_members = refl
get_small n k (member l e ms) = get_by (slice_cmp nat_cmp k l) n k l e ms (get_small n k ms)

count_by : (b : Bool) (k n : ℕ) (ms : Members) → nat_le (members_len ms) 17 ≡ b → 0 < k → k ≤ 17
    → has_count k (cond b (object (small_members ms n)) nothing) ≡ (members_len ms == k)
count_by true k n ms e h g = ap (λ m. m == k) (small_members_len ms n)
count_by false k n ms e h g = grind arith

member_by : (b : Bool) (k n : ℕ) (ms : Members) → nat_le (members_len ms) 17 ≡ b → k ≤ 17 → (members_len ms == k) ≡ true
    → (key : List ℕ) → get key (cond b (object (small_members ms n)) nothing) ≡ option_map (λ d. small d n) (get_member key ms)
member_by true k n ms e g h = λ key. get_small n key ms
member_by false k n ms e g h = absurd (grind arith)

-- a value with no members
no_count : (d : Data) (n : ℕ) → ((k : ℕ) → 0 < k → has_count k (small d (suc n)) ≡ false) → ((k : ℕ) → has_count k d ≡ false) → KeepsMembers d n
no_count d n h g = λ k some wide. (h k some ∙ sym (g k), λ has. absurd (grind (arith, g k)))

pub members_kept : (d : Data) (n : ℕ) → KeepsMembers d n
members_kept null n = no_count null n (λ k h. refl) (λ k. refl)
members_kept (boolean b) n = no_count (boolean b) n (λ k h. refl) (λ k. refl)
members_kept (number x) n = no_count (number x) n (λ k h. refl) (λ k. refl)
members_kept (string s) n = no_count (string s) n (λ k h. refl) (λ k. refl)
members_kept (array ds) n = no_count (array ds) n (λ k h. either (nat_le (items_len ds) 14) (has_count k) (array (small_items ds n)) nothing false refl (grind arith)) (λ k. refl)
members_kept (object ms) n = λ k h g. (count_by (nat_le (members_len ms) 17) k n ms refl h g, λ has. member_by (nat_le (members_len ms) 17) k n ms refl g has)
