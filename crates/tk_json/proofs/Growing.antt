-- Small values, while their items and members are read.
use Rattle.std.proofs.Common.{◌≡◌, ◌+◌, ◌<◌, ◌≤◌, ◌-◌, ℕ, suc, List, [], ◌∷◌, ◌++◌, length, true, false, nat_le, Option, Some, None, option_map, option_and_then, refl, ap, ◌∙◌, sym, arith, length-append}
use Rattle.std.specs.Ordering.{nat_cmp, match_ordering}
use Rattle.std.specs.declared.cmp.Ordering.{Ordering}
use Rattle.std.specs.declared.cmp.Ordering.TheVariants.{Less, Equal, Greater}
use Rattle.std.specs.Cmp.Lexicographic.{slice_cmp}
use Rattle.json.specs.Token.{Token}
use Rattle.json.specs.Json as json
use Rattle.json.specs.Json.{parse_map, after_end_array, members, value}
use Rattle.json.proofs.Grammar.{left_some}
use Rattle.serde_json.specs.Data.{Data, array, object, Items, no_items, item, Members, no_members, member, put}
use Rattle.serde_json.specs.Events.{items_len, members_len}
use Rattle.serde_json.specs.Read.{of_json, of_members, converted}
use Rattle.serde_json.specs.View.{items_of}
use Rattle.tk_json.specs.Small.{small, small_items, small_members, small_read, array_within, object_within, nothing}
use Rattle.tk_json.specs.Values.{value_read, items_read, members_read, rest}
use Rattle.tk_json.proofs.Steps.{array_read, object_read, item_read}

-- ---- what was read, seen otherwise

abbrev the : {A : Type 0} → A → Option A → A
the a None = a
the a (Some b) = b

pub mapped_none : {A B : Type 0} (f : A → B) (o : Option (A × List Token)) → parse_map f o ≡ None → o ≡ None
mapped_none f None e = refl
mapped_none f (Some p) e = absurd (cc)

-- what is seen of a value was read
pub mapped_some : {A B : Type 0} (f : A → B) (o : Option (A × List Token)) (b : B) (r : List Token) → parse_map f o ≡ Some (b, r) → (a : A) × (o ≡ Some (a, r)) × (b ≡ f a)
mapped_some f None b r e = absurd (cc)
mapped_some f (Some p) b r e = let same = ap (the (b, r)) e in (p.0, ap (λ q. Some (p.0, q.1)) same, sym (ap (λ q. q.0) same))

-- ---- items

-- these, and the items after them
abbrev pub before : List Data → Items → Items
before [] rest = rest
before (d ∷ ds) rest = item d (before ds rest)

-- what is kept of an array of which these are kept so far, and whose other items are still to come
abbrev pub kept_array : ℕ → List Data → Items → Data
kept_array levels found ds = array_within (length found + items_len ds) (before found (small_items ds levels))

before_one : (found : List Data) (d : Data) (ds : Items) → before found (item d ds) ≡ before (found ++ d ∷ []) ds
before_one [] d ds = refl
before_one (e ∷ found) d ds = ap (item e) (before_one found d ds)

before_none : (found : List Data) → before found no_items ≡ items_of found
before_none [] = refl
before_none (d ∷ found) = ap (item d) (before_none found)

one_more : (levels : ℕ) (found : List Data) (d : Data) (ds : Items) → kept_array levels found (item d ds) ≡ kept_array levels (found ++ small d levels ∷ []) ds
one_more levels found d ds =
    let count : length found + suc (items_len ds) ≡ length (found ++ small d levels ∷ []) + items_len ds = omega (arith, length-append found (small d levels ∷ [])) in
    rw (count, before_one found (small d levels) (small_items ds levels)) refl

with_item : (levels : ℕ) (found : List Data) (d : Data) (o : Option (Items × List Token))
    → parse_map (kept_array levels found) (parse_map (item d) o) ≡ parse_map (kept_array levels (found ++ small d levels ∷ [])) o
with_item levels found d None = refl
with_item levels found d (Some p) = ap (λ e. Some (e, p.1)) (one_more levels found d p.0)

pub item_turn : (levels depth : ℕ) (found : List Data) (ts r : List Token) (v : Data) → after_end_array ts ≡ None → small_read levels depth ts ≡ Some (v, r)
    → parse_map (kept_array levels found) (items_read depth ts) ≡ parse_map (kept_array levels (found ++ v ∷ [])) (items_read depth r)
item_turn levels depth found ts r v going e =
    let d = mapped_some (λ x. small x levels) (value_read depth ts) v r e in
    ap (parse_map (kept_array levels found)) (item_read depth ts r d.0 going d.1) ∙ with_item levels found d.0 (items_read depth r)
    ∙ ap (λ x. parse_map (kept_array levels (found ++ x ∷ [])) (items_read depth r)) (sym d.2)

pub narrow_array : (levels : ℕ) (found : List Data) → length found ≤ 14 → kept_array levels found no_items ≡ array (items_of found)
narrow_array levels found h =
    let e : nat_le (length found + 0) 14 ≡ true = grind arith in
    rw e (ap array (before_none found))

pub wide_array : (levels : ℕ) (found : List Data) (o : Option (Items × List Token)) (r : List Token) → 14 < length found → rest o ≡ Some r → parse_map (kept_array levels found) o ≡ Some (nothing, r)
wide_array levels found None r h e = absurd (cc)
wide_array levels found (Some p) r h e =
    let wide : nat_le (length found + items_len p.0) 14 ≡ false = grind arith in
    let left : p.1 ≡ r = cc in
    rw (wide, left) refl

-- ---- members

put_len_by : (o : Ordering) (k l : List ℕ) (d e : Data) (ms : Members) → members_len ms ≤ members_len (put k d ms)
    → suc (members_len ms) ≤ members_len (match_ordering o (member k d (member l e ms)) (member l d ms) (member l e (put k d ms)))
put_len_by Less k l d e ms h = omega arith
put_len_by Equal k l d e ms h = omega arith
put_len_by Greater k l d e ms h = omega arith

put_len : (k : List ℕ) (d : Data) (ms : Members) → members_len ms ≤ members_len (put k d ms)
put_len k d no_members = omega arith
put_len k d (member l e ms) = put_len_by (slice_cmp nat_cmp k l) k l d e ms (put_len k d ms)

some_is : {A : Type 0} (x y : A) → Some x ≡ Some y → x ≡ y
some_is x y e = cc

of_longer_by : (js : json.Members) (k : List ℕ) (o : Option Data) (held ms : Members) → ((d : Data) → of_members js (put k d held) ≡ Some ms → members_len (put k d held) ≤ members_len ms)
    → option_and_then (λ d. of_members js (put k d held)) o ≡ Some ms → members_len held ≤ members_len ms
of_longer_by js k None held ms h e = absurd (cc)
of_longer_by js k (Some d) held ms h e = omega (arith, put_len k d held, h d e)

of_longer : (js : json.Members) (held ms : Members) → of_members js held ≡ Some ms → members_len held ≤ members_len ms
of_longer json.no_members held ms e = let same = ap members_len (some_is held ms e) in omega arith
of_longer (json.member k j js) held ms e = of_longer_by js k (of_json j) held ms (λ d f. of_longer js (put k d held) ms f) e

kept_by : (js : json.Members) (r s : List Token) (held ms : Members) (o : Option Members) → of_members js held ≡ o → option_map {U = Members × List Token} (λ b. (b, r)) o ≡ Some (ms, s) → members_len held ≤ members_len ms
kept_by js r s held ms None f e = absurd (cc)
kept_by js r s held ms (Some found) f e = let same = ap (λ q. q.0) (ap (the (ms, s)) e) in of_longer js held ms (f ∙ ap Some same)

longer_by : (o : Option (json.Members × List Token)) (held ms : Members) (s : List Token) → converted (λ js. of_members js held) o ≡ Some (ms, s) → members_len held ≤ members_len ms
longer_by None held ms s e = absurd (cc)
longer_by (Some p) held ms s e = kept_by p.0 p.1 s held ms (of_members p.0 held) refl e

-- an object has no fewer members than were read of it
pub longer : (held : Members) (depth : ℕ) (ts : List Token) (ms : Members) (r : List Token) → members_read held depth ts ≡ Some (ms, r) → members_len held ≤ members_len ms
longer held depth ts ms r e = longer_by (members (value depth) (length ts) ts) held ms r e

pub wide_object : (levels : ℕ) (held : Members) (depth : ℕ) (ts r : List Token) → 17 < members_len held → rest (members_read held depth ts) ≡ Some r
    → parse_map (λ ms. object_within (members_len ms) (small_members ms levels)) (members_read held depth ts) ≡ Some (nothing, r)
wide_object levels held depth ts r h e =
    let all = left_some (members_read held depth ts) r e in
    let wide : nat_le (members_len all.0) 17 ≡ false = grind (arith, longer held depth ts all.0 r all.1) in
    ap (parse_map (λ ms. object_within (members_len ms) (small_members ms levels))) all.1 ∙ rw wide refl

pub narrow_object : (levels : ℕ) (ms : Members) → members_len ms ≤ 17 → object_within (members_len ms) (small_members ms levels) ≡ object (small_members ms levels)
narrow_object levels ms h = let e : nat_le (members_len ms) 17 ≡ true = grind arith in rw e refl

small_put_by : (o : Ordering) (n : ℕ) (k l : List ℕ) (d e : Data) (ms : Members) → small_members (put k d ms) n ≡ put k (small d n) (small_members ms n)
    → small_members (match_ordering o (member k d (member l e ms)) (member l d ms) (member l e (put k d ms))) n
    ≡ match_ordering o (member k (small d n) (member l (small e n) (small_members ms n))) (member l (small d n) (small_members ms n)) (member l (small e n) (put k (small d n) (small_members ms n)))
small_put_by Less n k l d e ms h = refl
small_put_by Equal n k l d e ms h = refl
small_put_by Greater n k l d e ms h = ap (member l (small e n)) h

pub small_put : (n : ℕ) (k : List ℕ) (d : Data) (ms : Members) → small_members (put k d ms) n ≡ put k (small d n) (small_members ms n)
small_put n k d no_members = refl
small_put n k d (member l e ms) = small_put_by (slice_cmp nat_cmp k l) n k l d e ms (small_put n k d ms)

-- ---- small values of one token, or of none

pub seen_read : (levels depth : ℕ) (ts r : List Token) (d v : Data) → value_read depth ts ≡ Some (d, r) → v ≡ small d levels → small_read levels depth ts ≡ Some (v, r)
seen_read levels depth ts r d v e seen = ap (parse_map (λ x. small x levels)) e ∙ ap (λ x. Some (x, r)) (sym seen)

under_array : (levels : ℕ) (o : Option (Items × List Token)) → parse_map (λ d. small d (suc levels)) (parse_map array o) ≡ parse_map (λ ds. array_within (items_len ds) (small_items ds levels)) o
under_array levels None = refl
under_array levels (Some p) = refl

under_object : (levels : ℕ) (o : Option (Members × List Token)) → parse_map (λ d. small d (suc levels)) (parse_map object o) ≡ parse_map (λ ms. object_within (members_len ms) (small_members ms levels)) o
under_object levels None = refl
under_object levels (Some p) = refl

no_array : (o : Option (Items × List Token)) (r : List Token) → rest o ≡ Some r → parse_map (λ d. small d 0) (parse_map array o) ≡ Some (nothing, r)
no_array None r e = absurd (cc)
no_array (Some p) r e = let left : p.1 ≡ r = cc in rw left refl

no_object : (o : Option (Members × List Token)) (r : List Token) → rest o ≡ Some r → parse_map (λ d. small d 0) (parse_map object o) ≡ Some (nothing, r)
no_object None r e = absurd (cc)
no_object (Some p) r e = let left : p.1 ≡ r = cc in rw left refl

-- what is kept of an array is kept of its items, and of an object of its members
pub array_seen : (levels depth : ℕ) (all ts : List Token) → all ≡ Token.begin_array ∷ ts → 0 < depth
    → small_read (suc levels) depth all ≡ parse_map (λ ds. array_within (items_len ds) (small_items ds levels)) (items_read (depth - 1) ts)
array_seen levels depth all ts is h = ap (parse_map (λ d. small d (suc levels))) (array_read depth all ts is h) ∙ under_array levels (items_read (depth - 1) ts)

pub object_seen : (levels depth : ℕ) (all ts : List Token) → all ≡ Token.begin_object ∷ ts → 0 < depth
    → small_read (suc levels) depth all ≡ parse_map (λ ms. object_within (members_len ms) (small_members ms levels)) (members_read no_members (depth - 1) ts)
object_seen levels depth all ts is h = ap (parse_map (λ d. small d (suc levels))) (object_read depth all ts is h) ∙ under_object levels (members_read no_members (depth - 1) ts)

pub array_left : (depth : ℕ) (all ts r : List Token) → all ≡ Token.begin_array ∷ ts → 0 < depth → rest (items_read (depth - 1) ts) ≡ Some r → small_read 0 depth all ≡ Some (nothing, r)
array_left depth all ts r is h e = ap (parse_map (λ d. small d 0)) (array_read depth all ts is h) ∙ no_array (items_read (depth - 1) ts) r e

pub object_left : (depth : ℕ) (all ts r : List Token) → all ≡ Token.begin_object ∷ ts → 0 < depth → rest (members_read no_members (depth - 1) ts) ≡ Some r → small_read 0 depth all ≡ Some (nothing, r)
object_left depth all ts r is h e = ap (parse_map (λ d. small d 0)) (object_read depth all ts is h) ∙ no_object (members_read no_members (depth - 1) ts) r e
