-- What is kept of a value, three levels deep, is of the same shape.
use Rattle.std.proofs.Common.{◌≡◌, ◌+◌, ◌<◌, ◌≤◌, ℕ, zero, suc, List, [], ◌∷◌, length, Bool, true, false, nat_le, cond, Option, Some, None, option_map, option_and_then, refl, ap, ◌∙◌, sym, arith}
use Rattle.std.specs.Prelude.{codes, ◌&&◌, ◌==◌}
use Rattle.serde_json.specs.Data.{Data, null, boolean, number, string, array, object, Items, no_items, item, Members, no_members}
use Rattle.serde_json.specs.Events.{items_len, members_len}
use Rattle.serde_json.specs.Find.{get, as_str, as_bool, as_array, as_u64}
use Rattle.tk_ids.specs.Attributes.{are_attributes, info_names}
use Rattle.tk_ids.specs.declared.attr.AttrInfo.{AttrInfo}
use Rattle.tk_ids.specs.declared.attr.AttrValue.{AttrValue}
use Rattle.tk_ids.specs.declared.info.OpInfo.{OpInfo}
use Rattle.tk_ids.specs.declared.info.ResourceInfo.{ResourceInfo}
use Rattle.tk_ids.specs.declared.location.Location.{Location}
use Rattle.tk_json.specs.Small.{small, small_items, small_members, few, nothing}
use Rattle.tk_json.proofs.Kept.{scalars_kept, items_kept, members_kept}
use Rattle.tk_stream.specs.Reading.{◌>>=◌, has_members, number_of, optional_of, id_of, optional_id_of, name_of, optional_name_of, small_of, values_of, list_of, each_of, number_at, optional_at, flag_at, text_at, list_at, id_at, optional_id_at, name_at, location_in, location_at, attr_in, attr_of, attrs_in, signed_in, value_of, values_in, waits_in, waits_of, waits_at, info_of, ResourceView, resource_parts, resource_of, OpView, op_parts, op_of, stats_of, resource_stats_with, resource_stats_of, op_stats_with, op_stats_of, counts_in, counts_of, filled_in, filled_of, buckets_in, buckets_at, wait_times_of, waits_beside, times_of}
use Rattle.tk_stream.specs.Times.{counts_from}

-- ---- values of one token

pub number_same : (d : Data) (n : ℕ) → number_of (small d n) ≡ number_of d
number_same d n = ap (option_and_then as_u64) (scalars_kept d n).0

-- an id
pub id_same : (d : Data) (n : ℕ) → id_of (small d n) ≡ id_of d
id_same d n = rw (number_same d n) refl

column_same : (d : Data) (n : ℕ) → small_of (small d n) ≡ small_of d
column_same d n = rw (number_same d n) refl

text_same : (d : Data) (n : ℕ) → as_str (small d n) ≡ as_str d
text_same d n = (scalars_kept d n).1

name_same : (d : Data) (n : ℕ) → name_of (small d n) ≡ name_of d
name_same d n = rw (text_same d n) refl

pub flag_same : (d : Data) (n : ℕ) → as_bool (small d n) ≡ as_bool d
flag_same d n = (scalars_kept d n).2

-- what holds of both is what a choice has
either : {A B : Type 0} (b : Bool) (f : A → B) (x y : A) (z : B) → f x ≡ z → f y ≡ z → f (cond b x y) ≡ z
either true f x y z h g = h
either false f x y z h g = g

-- null alone is null
unless_null : {B : Type 0} (f : Data → B) → ((ds : Items) (es : Items) → f (array ds) ≡ f (array es)) → ((ds : Items) → f nothing ≡ f (array ds)) → ((ms ks : Members) → f (object ms) ≡ f (object ks))
    → (d : Data) (n : ℕ) → f (small d n) ≡ f d
unless_null f arrays none objects null n = refl
unless_null f arrays none objects (boolean b) n = refl
unless_null f arrays none objects (number x) n = refl
unless_null f arrays none objects (string s) n = refl
unless_null f arrays none objects (array ds) zero = none ds
unless_null f arrays none objects (object ms) zero = objects no_members ms
unless_null f arrays none objects (array ds) (suc n) = either (nat_le (items_len ds) 14) f (array (small_items ds n)) nothing (f (array ds)) (arrays _ _) (none ds)
unless_null f arrays none objects (object ms) (suc n) = either (nat_le (members_len ms) 17) f (object (small_members ms n)) nothing (f (object ms)) (objects _ _) (objects no_members ms)

optional_same : (d : Data) (n : ℕ) → optional_of (small d n) ≡ optional_of d
optional_same d n = unless_null optional_of (λ ds es. refl) (λ ds. refl) (λ ms ks. refl) d n

optional_id_same : (d : Data) (n : ℕ) → optional_id_of (small d n) ≡ optional_id_of d
optional_id_same d n = unless_null optional_id_of (λ ds es. refl) (λ ds. refl) (λ ms ks. refl) d n

optional_name_same : (d : Data) (n : ℕ) → optional_name_of (small d n) ≡ optional_name_of d
optional_name_same d n = unless_null optional_name_of (λ ds es. refl) (λ ds. refl) (λ ms ks. refl) d n

-- ---- lists of so few values that none is left out

-- a function of lists has nothing of more than fourteen values, and otherwise the same of small ones
abbrev pub OfFew : {B : Type 0} → (List Data → Option B) → ℕ → Type 0
OfFew f n = ((ds : Items) → f (values_of (small_items ds n)) ≡ f (values_of ds)) × ((ds : Items) → 14 < items_len ds → f (values_of ds) ≡ None)

few_by : {B : Type 0} (f : List Data → Option B) (n : ℕ) (ds : Items) (b : Bool) → nat_le (items_len ds) 14 ≡ b → OfFew f n
    → option_and_then f (option_map values_of (option_map (λ es. small_items es n) (cond b (Some ds) None))) ≡ f (values_of ds)
few_by f n ds true e same = same.0 ds
few_by f n ds false e same = sym (same.1 ds (grind arith))

few_same : {B : Type 0} (f : List Data → Option B) (n : ℕ) → OfFew f n
    → (o : Option Items) → option_and_then f (option_map values_of (option_map (λ es. small_items es n) (option_and_then few o))) ≡ option_and_then f (option_map values_of o)
few_same f n same None = refl
few_same f n same (Some ds) = few_by f n ds (nat_le (items_len ds) 14) refl same

pub list_same : {B : Type 0} (f : List Data → Option B) (n : ℕ) → OfFew f n → (d : Data) → (list_of (small d (suc n)) >>= f) ≡ (list_of d >>= f)
list_same f n same d = ap (λ o. option_and_then f (option_map values_of o)) (items_kept d n) ∙ few_same f n same (as_array d)

-- ---- poll counts, places and attributes

counts_few : (n : ℕ) (ds : Items) → counts_in (values_of (small_items ds n)) ≡ counts_in (values_of ds)
counts_few n no_items = refl
counts_few n (item a no_items) = refl
counts_few n (item a (item b no_items)) = refl
counts_few n (item a (item b (item c no_items))) = rw (id_same a n, number_same b n, number_same c n) refl
counts_few n (item a (item b (item c (item d ds)))) = refl

counts_wide : (ds : Items) → 14 < items_len ds → counts_in (values_of ds) ≡ None
counts_wide no_items h = refl
counts_wide (item a no_items) h = refl
counts_wide (item a (item b no_items)) h = refl
counts_wide (item a (item b (item c no_items))) h = absurd (omega arith)
counts_wide (item a (item b (item c (item d ds)))) h = refl

-- poll counts
pub counts_small : (d : Data) → counts_of (small d 3) ≡ counts_of d
counts_small d = list_same counts_in 2 (counts_few 2, counts_wide) d

location_few : (n : ℕ) (ds : Items) → location_in (values_of (small_items ds n)) ≡ location_in (values_of ds)
location_few n no_items = refl
location_few n (item a no_items) = refl
location_few n (item a (item b no_items)) = refl
location_few n (item a (item b (item c no_items))) = rw (name_same a n, column_same b n, column_same c n) refl
location_few n (item a (item b (item c (item d ds)))) = refl

location_wide : (ds : Items) → 14 < items_len ds → location_in (values_of ds) ≡ None
location_wide no_items h = refl
location_wide (item a no_items) h = refl
location_wide (item a (item b no_items)) h = refl
location_wide (item a (item b (item c no_items))) h = absurd (omega arith)
location_wide (item a (item b (item c (item d ds)))) h = refl

attr_few : (n : ℕ) (ds : Items) → attr_in (values_of (small_items ds n)) ≡ attr_in (values_of ds)
attr_few n no_items = refl
attr_few n (item a no_items) = refl
attr_few n (item a (item b no_items)) = refl
attr_few n (item a (item b (item c no_items))) = rw (name_same a n, optional_name_same b n, text_same c n) refl
attr_few n (item a (item b (item c (item d ds)))) = refl

attr_wide : (ds : Items) → 14 < items_len ds → attr_in (values_of ds) ≡ None
attr_wide no_items h = refl
attr_wide (item a no_items) h = refl
attr_wide (item a (item b no_items)) h = refl
attr_wide (item a (item b (item c no_items))) h = absurd (omega arith)
attr_wide (item a (item b (item c (item d ds)))) h = refl

attr_same : (d : Data) (n : ℕ) → attr_of (small d (suc n)) ≡ attr_of d
attr_same d n = list_same attr_in n (attr_few n, attr_wide) d

-- an attribute
pub attr_small : (d : Data) → attr_of (small d 3) ≡ attr_of d
attr_small d = attr_same d 2

signed_few : (n : ℕ) (ds : Items) → signed_in (values_of (small_items ds n)) ≡ signed_in (values_of ds)
signed_few n no_items = refl
signed_few n (item a no_items) = rw ((scalars_kept a n).0) refl
signed_few n (item a (item b ds)) = refl

signed_wide : (ds : Items) → 14 < items_len ds → signed_in (values_of ds) ≡ None
signed_wide no_items h = refl
signed_wide (item a no_items) h = absurd (omega arith)
signed_wide (item a (item b ds)) h = refl

signed_by : (b : Bool) (n : ℕ) (ds : Items) → nat_le (items_len ds) 14 ≡ b → value_of (cond b (array (small_items ds n)) nothing) ≡ signed_in (values_of ds)
signed_by true n ds e = signed_few n ds
signed_by false n ds e = sym (signed_wide ds (grind arith))

value_same : (d : Data) (n : ℕ) → value_of (small d (suc n)) ≡ value_of d
value_same null n = refl
value_same (boolean b) n = refl
value_same (number x) n = refl
value_same (string s) n = refl
value_same (array ds) n = signed_by (nat_le (items_len ds) 14) n ds refl
value_same (object ms) n = either (nat_le (members_len ms) 17) value_of (object (small_members ms n)) nothing None refl refl

-- the value of an attribute
pub value_small : (d : Data) → value_of (small d 3) ≡ value_of d
value_small d = value_same d 2

waits_few : (n : ℕ) (ds : Items) → waits_in (values_of (small_items ds n)) ≡ waits_in (values_of ds)
waits_few n no_items = refl
waits_few n (item a no_items) = refl
waits_few n (item a (item b no_items)) = refl
waits_few n (item a (item b (item c no_items))) = rw (number_same a n, number_same b n, number_same c n) refl
waits_few n (item a (item b (item c (item d ds)))) = refl

waits_wide : (ds : Items) → 14 < items_len ds → waits_in (values_of ds) ≡ None
waits_wide no_items h = refl
waits_wide (item a no_items) h = refl
waits_wide (item a (item b no_items)) h = refl
waits_wide (item a (item b (item c no_items))) h = absurd (omega arith)
waits_wide (item a (item b (item c (item d ds)))) h = refl

waits_by : (b : Bool) (n : ℕ) (ds : Items) → nat_le (items_len ds) 14 ≡ b → waits_of (cond b (array (small_items ds n)) nothing) ≡ waits_in (values_of ds)
waits_by true n ds e = waits_few n ds
waits_by false n ds e = sym (waits_wide ds (grind arith))

waits_same : (d : Data) (n : ℕ) → waits_of (small d (suc n)) ≡ waits_of d
waits_same null n = refl
waits_same (boolean b) n = refl
waits_same (number x) n = refl
waits_same (string s) n = refl
waits_same (array ds) n = waits_by (nat_le (items_len ds) 14) n ds refl
waits_same (object ms) n = either (nat_le (members_len ms) 17) waits_of (object (small_members ms n)) nothing None refl refl

each_few : {A : Type 0} (shape : Data → Option A) (n : ℕ) → ((d : Data) → shape (small d n) ≡ shape d) → (ds : Items) → each_of shape (values_of (small_items ds n)) ≡ each_of shape (values_of ds)
each_few shape n same no_items = refl
each_few shape n same (item d ds) = rw (same d, each_few shape n same ds) refl

all_by : {A : Type 0} (o : Option A) (rest : Option (List A)) (n : ℕ) (xs : List A) → ((ys : List A) → rest ≡ Some ys → length ys ≡ n)
    → option_and_then (λ x. option_map (λ ys. x ∷ ys) rest) o ≡ Some xs → length xs ≡ suc n
all_by None rest n xs h e = absurd (cc)
all_by (Some x) None n xs h e = absurd (cc)
all_by (Some x) (Some ys) n xs h e = let same : xs ≡ x ∷ ys = cc in rw same (ap suc (h ys refl))

-- as many as there are values
all_of : {A : Type 0} (shape : Data → Option A) (ds : Items) (xs : List A) → each_of shape (values_of ds) ≡ Some xs → length xs ≡ items_len ds
all_of shape no_items xs e = let same : xs ≡ [] = cc in rw same refl
all_of shape (item d ds) xs e = all_by (shape d) (each_of shape (values_of ds)) (items_len ds) xs (all_of shape ds) e

none_kept : {A : Type 0} (o : Option (List A)) (keeps : List A → Bool) → ((xs : List A) → o ≡ Some xs → keeps xs ≡ false) → (o >>= λ xs. cond (keeps xs) (Some xs) None) ≡ None
none_kept None keeps h = refl
none_kept (Some xs) keeps h = rw (h xs refl) refl

and_false : (a b : Bool) → a ≡ false → (a && b) ≡ false
and_false a b e = rw e refl

names_len : (attrs : List AttrInfo) → length (info_names attrs) ≡ length attrs
names_len [] = refl
names_len (a ∷ attrs) = ap suc (names_len attrs)

attrs_few : (ds : Items) → attrs_in (values_of (small_items ds 1)) ≡ attrs_in (values_of ds)
unfolding attrs_in
attrs_few ds = rw (each_few attr_of 1 (λ d. attr_same d 0) ds) refl

attrs_wide : (ds : Items) → 14 < items_len ds → attrs_in (values_of ds) ≡ None
unfolding attrs_in
attrs_wide ds h =
    none_kept (each_of attr_of (values_of ds)) (λ attrs. are_attributes (info_names attrs))
    (λ attrs e. let many = names_len attrs ∙ all_of attr_of ds attrs e in and_false (nat_le (length (info_names attrs)) 6) _ (grind (arith, many)))

values_few : (ds : Items) → values_in (values_of (small_items ds 1)) ≡ values_in (values_of ds)
unfolding values_in
values_few ds = rw (each_few value_of 1 (λ d. value_same d 0) ds) refl

values_wide : (ds : Items) → 14 < items_len ds → values_in (values_of ds) ≡ None
unfolding values_in
values_wide ds h = none_kept (each_of value_of (values_of ds)) (λ vs. nat_le (length vs) 6) (λ vs e. let many = all_of value_of ds vs e in grind (arith, many))

-- ---- what stands at the keys of an object of so many members

-- at each key stands what stood there, of one level less
abbrev KeepsKeys : Data → Type 0
KeepsKeys d = (key : List ℕ) → get key (small d 3) ≡ option_map (λ e. small e 2) (get key d)

through : {B : Type 0} (f : Data → Option B) → ((e : Data) → f (small e 2) ≡ f e) → (o : Option Data) → option_and_then f (option_map (λ e. small e 2) o) ≡ option_and_then f o
through f same None = refl
through f same (Some e) = same e

at_key : {B : Type 0} (f : Data → Option B) → ((e : Data) → f (small e 2) ≡ f e) → (key : List ℕ) (d : Data) → KeepsKeys d → option_and_then f (get key (small d 3)) ≡ option_and_then f (get key d)
at_key f same key d at = ap (option_and_then f) (at key) ∙ through f same (get key d)

number_kept : (key : List ℕ) (d : Data) → KeepsKeys d → number_at key (small d 3) ≡ number_at key d
number_kept key d at = at_key number_of (λ e. number_same e 2) key d at

optional_kept : (key : List ℕ) (d : Data) → KeepsKeys d → optional_at key (small d 3) ≡ optional_at key d
optional_kept key d at = at_key optional_of (λ e. optional_same e 2) key d at

waits_kept : (key : List ℕ) (d : Data) → KeepsKeys d → waits_at key (small d 3) ≡ waits_at key d
waits_kept key d at = at_key waits_of (λ e. waits_same e 1) key d at

flag_kept : (key : List ℕ) (d : Data) → KeepsKeys d → flag_at key (small d 3) ≡ flag_at key d
flag_kept key d at = at_key as_bool (λ e. flag_same e 2) key d at

text_kept : (key : List ℕ) (d : Data) → KeepsKeys d → text_at key (small d 3) ≡ text_at key d
text_kept key d at = at_key as_str (λ e. text_same e 2) key d at

id_kept : (key : List ℕ) (d : Data) → KeepsKeys d → id_at key (small d 3) ≡ id_at key d
id_kept key d at = at_key id_of (λ e. id_same e 2) key d at

optional_id_kept : (key : List ℕ) (d : Data) → KeepsKeys d → optional_id_at key (small d 3) ≡ optional_id_at key d
optional_id_kept key d at = at_key optional_id_of (λ e. optional_id_same e 2) key d at

name_kept : (key : List ℕ) (d : Data) → KeepsKeys d → name_at key (small d 3) ≡ name_at key d
name_kept key d at = at_key name_of (λ e. name_same e 2) key d at

-- a function of the list at a key
pub list_then : {B : Type 0} (f : List Data → Option B) (o : Option Data) → option_and_then f (option_map values_of (option_and_then as_array o)) ≡ option_and_then (λ e. option_and_then f (list_of e)) o
list_then f None = refl
list_then f (Some e) = refl

list_kept : {B : Type 0} (f : List Data → Option B) → OfFew f 1 → (key : List ℕ) (d : Data) → KeepsKeys d → option_and_then f (list_at key (small d 3)) ≡ option_and_then f (list_at key d)
list_kept f same key d at =
    list_then f (get key (small d 3)) ∙ at_key (λ e. option_and_then f (list_of e)) (λ e. list_same f 1 same e) key d at ∙ sym (list_then f (get key d))

location_kept : (key : List ℕ) (d : Data) → KeepsKeys d → location_at key (small d 3) ≡ location_at key d
location_kept key d at = list_kept location_in (location_few 1, location_wide) key d at

-- an object of as many members, or none
by_count : {B : Type 0} (f : Data → Option B) (count : ℕ) → 0 < count → count ≤ 17 → (d : Data) (b : Bool) → has_members count d ≡ b
    → ((e : Data) → has_members count e ≡ false → f e ≡ None) → (has_members count (small d 3) ≡ true → has_members count d ≡ true → KeepsKeys d → f (small d 3) ≡ f d) → f (small d 3) ≡ f d
by_count f count some narrow d false is none same = let kept = members_kept d 2 count some narrow in none (small d 3) (kept.0 ∙ is) ∙ sym (none d is)
by_count f count some narrow d true is none same = let kept = members_kept d 2 count some narrow in same (kept.0 ∙ is) is (kept.1 is)

-- ---- infos

-- the info of a task
pub info_small : (d : Data) → info_of (small d 3) ≡ info_of d
unfolding info_of
info_small d =
    by_count info_of 4 (omega arith) (omega arith) d (has_members 4 d) refl (λ e none. rw none refl)
    (λ counts is at. rw (counts, is, id_kept (codes "id") d at, text_kept (codes "kind") d at, location_kept (codes "loc") d at, name_kept (codes "name") d at) refl)

-- the info of a resource whose attributes were read last
abbrev resource_last : Option (List AttrInfo) → Option ℕ → Option (List ℕ) → Option Location → Option (Option ℕ) → Option (List ℕ) → Option ResourceInfo
resource_last attrs id kind location parent concrete = do
  id ← id
  kind ← kind
  location ← location
  parent ← parent
  concrete ← concrete
  attrs ← attrs
  Some (record { id = id; parent = parent; concrete = concrete; kind = kind; location = location; attrs = attrs })

-- the same, where they are read first
abbrev resource_first : Option (List Data) → Option ℕ → Option (List ℕ) → Option Location → Option (Option ℕ) → Option (List ℕ) → Option ResourceView
resource_first attrs id kind location parent concrete = do
  attrs ← attrs
  id ← id
  kind ← kind
  location ← location
  parent ← parent
  concrete ← concrete
  Some (record { attrs = attrs; id = id; kind = kind; location = location; parent = parent; concrete = concrete })

abbrev resource_with : ResourceView → Option ResourceInfo
resource_with p = do
  attrs ← attrs_in p.attrs
  Some (record { id = p.id; parent = p.parent; concrete = p.concrete; kind = p.kind; location = p.location; attrs = attrs })

resource_order : (attrs : Option (List Data)) (i : Option ℕ) (k : Option (List ℕ)) (l : Option Location) (p : Option (Option ℕ)) (c : Option (List ℕ))
    → (resource_first attrs i k l p c >>= resource_with) ≡ resource_last (attrs >>= attrs_in) i k l p c
resource_order None None k l p c = refl
resource_order None (Some i) None l p c = refl
resource_order None (Some i) (Some k) None p c = refl
resource_order None (Some i) (Some k) (Some l) None c = refl
resource_order None (Some i) (Some k) (Some l) (Some p) None = refl
resource_order None (Some i) (Some k) (Some l) (Some p) (Some c) = refl
resource_order (Some list) None k l p c = refl
resource_order (Some list) (Some i) None l p c = refl
resource_order (Some list) (Some i) (Some k) None p c = refl
resource_order (Some list) (Some i) (Some k) (Some l) None c = refl
resource_order (Some list) (Some i) (Some k) (Some l) (Some p) None = refl
resource_order (Some list) (Some i) (Some k) (Some l) (Some p) (Some c) = refl

resource_is : (d : Data) → has_members 6 d ≡ true
    → resource_of d ≡ resource_last (list_at (codes "attrs") d >>= attrs_in) (id_at (codes "id") d) (name_at (codes "kind") d) (location_at (codes "loc") d) (optional_id_at (codes "parent") d) (name_at (codes "type") d)
unfolding resource_of resource_parts
resource_is d is = rw is (resource_order (list_at (codes "attrs") d) (id_at (codes "id") d) (name_at (codes "kind") d) (location_at (codes "loc") d) (optional_id_at (codes "parent") d) (name_at (codes "type") d))

no_resource : (d : Data) → has_members 6 d ≡ false → resource_of d ≡ None
unfolding resource_of resource_parts
no_resource d none = rw none refl

-- the info of a resource
pub resource_small : (d : Data) → resource_of (small d 3) ≡ resource_of d
resource_small d =
    by_count resource_of 6 (omega arith) (omega arith) d (has_members 6 d) refl no_resource
    (λ counts is at. resource_is (small d 3) counts
    ∙ rw (list_kept attrs_in (attrs_few, attrs_wide) (codes "attrs") d at, id_kept (codes "id") d at, name_kept (codes "kind") d at, location_kept (codes "loc") d at, optional_id_kept (codes "parent") d at, name_kept (codes "type") d at) (sym (resource_is d is)))

-- the info of an async operation whose attributes were read last
abbrev op_last : Option (List AttrInfo) → Option ℕ → Option (Option ℕ) → Option ℕ → Option (List ℕ) → Option OpInfo
op_last attrs id parent resource source = do
  id ← id
  parent ← parent
  resource ← resource
  source ← source
  attrs ← attrs
  Some (record { id = id; source = source; resource = resource; parent = parent; attrs = attrs })

-- the same, where they are read first
abbrev op_first : Option (List Data) → Option ℕ → Option (Option ℕ) → Option ℕ → Option (List ℕ) → Option OpView
op_first attrs id parent resource source = do
  attrs ← attrs
  id ← id
  parent ← parent
  resource ← resource
  source ← source
  Some (record { attrs = attrs; id = id; parent = parent; resource = resource; source = source })

abbrev op_with : OpView → Option OpInfo
op_with p = do
  attrs ← attrs_in p.attrs
  Some (record { id = p.id; source = p.source; resource = p.resource; parent = p.parent; attrs = attrs })

op_order : (attrs : Option (List Data)) (i : Option ℕ) (p : Option (Option ℕ)) (r : Option ℕ) (s : Option (List ℕ))
    → (op_first attrs i p r s >>= op_with) ≡ op_last (attrs >>= attrs_in) i p r s
op_order None None p r s = refl
op_order None (Some i) None r s = refl
op_order None (Some i) (Some p) None s = refl
op_order None (Some i) (Some p) (Some r) None = refl
op_order None (Some i) (Some p) (Some r) (Some s) = refl
op_order (Some list) None p r s = refl
op_order (Some list) (Some i) None r s = refl
op_order (Some list) (Some i) (Some p) None s = refl
op_order (Some list) (Some i) (Some p) (Some r) None = refl
op_order (Some list) (Some i) (Some p) (Some r) (Some s) = refl

op_is : (d : Data) → has_members 5 d ≡ true
    → op_of d ≡ op_last (list_at (codes "attrs") d >>= attrs_in) (id_at (codes "id") d) (optional_id_at (codes "parent") d) (id_at (codes "resource") d) (name_at (codes "source") d)
unfolding op_of op_parts
op_is d is = rw is (op_order (list_at (codes "attrs") d) (id_at (codes "id") d) (optional_id_at (codes "parent") d) (id_at (codes "resource") d) (name_at (codes "source") d))

no_op : (d : Data) → has_members 5 d ≡ false → op_of d ≡ None
unfolding op_of op_parts
no_op d none = rw none refl

-- the info of an async operation
pub op_small : (d : Data) → op_of (small d 3) ≡ op_of d
op_small d =
    by_count op_of 5 (omega arith) (omega arith) d (has_members 5 d) refl no_op
    (λ counts is at. op_is (small d 3) counts
    ∙ rw (list_kept attrs_in (attrs_few, attrs_wide) (codes "attrs") d at, id_kept (codes "id") d at, optional_id_kept (codes "parent") d at, id_kept (codes "resource") d at, name_kept (codes "source") d at) (sym (op_is d is)))

-- ---- rows

-- an id
pub id_small : (d : Data) → id_of (small d 3) ≡ id_of d
id_small d = id_same d 3

-- the row of a task
pub stats_small : (d : Data) → stats_of (small d 3) ≡ stats_of d
unfolding stats_of
stats_small d =
    by_count stats_of 17 (omega arith) (omega arith) d (has_members 17 d) refl (λ e none. rw none refl)
    (λ counts is at. rw (
      counts,
      is,
      number_kept (codes "busy") d at,
      number_kept (codes "clones") d at,
      number_kept (codes "created") d at,
      optional_kept (codes "dropped") d at,
      number_kept (codes "drops") d at,
      optional_kept (codes "first_poll") d at,
      number_kept (codes "handles") d at,
      id_kept (codes "id") d at,
      optional_kept (codes "last_ended") d at,
      optional_kept (codes "last_started") d at,
      optional_kept (codes "last_wake") d at,
      flag_kept (codes "polling") d at,
      number_kept (codes "polls") d at,
      waits_kept (codes "sched") d at,
      flag_kept (codes "scheduled") d at,
      number_kept (codes "self_wakes") d at,
      number_kept (codes "wakes") d at,
    ) refl)

-- steps that give the same
same_steps : {A B : Type 0} (o : Option A) (f g : A → Option B) → ((x : A) → f x ≡ g x) → (o >>= f) ≡ (o >>= g)
same_steps None f g h = refl
same_steps (Some x) f g h = h x

two_steps : {A B C : Type 0} (o : Option A) (f : A → Option B) (g : B → Option C) → (o >>= λ x. f x >>= g) ≡ ((o >>= f) >>= g)
two_steps None f g = refl
two_steps (Some x) f g = refl

pub no_step : {A B : Type 0} (o : Option A) (f : A → Option B) → ((x : A) → f x ≡ None) → (o >>= f) ≡ None
no_step None f h = refl
no_step (Some x) f h = h x

-- a row with the values of its attributes
rows_same : {B : Type 0} (row : List AttrValue → Data → Option B) (count : ℕ) → 0 < count → count ≤ 17
    → ((attrs : List AttrValue) (e : Data) → has_members count e ≡ false → row attrs e ≡ None)
    → (d : Data) → (has_members count (small d 3) ≡ true → has_members count d ≡ true → KeepsKeys d → (attrs : List AttrValue) → row attrs (small d 3) ≡ row attrs d)
    → (list_at (codes "attrs") (small d 3) >>= λ list. values_in list >>= λ attrs. row attrs (small d 3)) ≡ (list_at (codes "attrs") d >>= λ list. values_in list >>= λ attrs. row attrs d)
rows_same row count some narrow none d same =
    by_count (λ e. list_at (codes "attrs") e >>= λ list. values_in list >>= λ attrs. row attrs e) count some narrow d (has_members count d) refl
    (λ e absent. no_step (list_at (codes "attrs") e) _ (λ list. no_step (values_in list) _ (λ attrs. none attrs e absent)))
    (λ counts is at. two_steps (list_at (codes "attrs") (small d 3)) values_in (λ attrs. row attrs (small d 3))
    ∙ ap (λ o. o >>= λ attrs. row attrs (small d 3)) (list_kept values_in (values_few, values_wide) (codes "attrs") d at)
    ∙ same_steps (list_at (codes "attrs") d >>= values_in) (λ attrs. row attrs (small d 3)) (λ attrs. row attrs d) (same counts is at)
    ∙ sym (two_steps (list_at (codes "attrs") d) values_in (λ attrs. row attrs d)))

-- the row of a resource
pub resource_stats_small : (d : Data) → resource_stats_of (small d 3) ≡ resource_stats_of d
unfolding resource_stats_of resource_stats_with
resource_stats_small d =
    rows_same resource_stats_with 5 (omega arith) (omega arith) (λ attrs e none. rw none refl) d
    (λ counts is at attrs. rw (counts, is, number_kept (codes "created") d at, optional_kept (codes "dropped") d at, number_kept (codes "handles") d at, id_kept (codes "id") d at) refl)

-- the row of an async operation
pub op_stats_small : (d : Data) → op_stats_of (small d 3) ≡ op_stats_of d
unfolding op_stats_of op_stats_with
op_stats_small d =
    rows_same op_stats_with 12 (omega arith) (omega arith) (λ attrs e none. rw none refl) d
    (λ counts is at attrs. rw (
      counts,
      is,
      number_kept (codes "busy") d at,
      number_kept (codes "created") d at,
      optional_kept (codes "dropped") d at,
      optional_kept (codes "first_poll") d at,
      number_kept (codes "handles") d at,
      id_kept (codes "id") d at,
      optional_kept (codes "last_ended") d at,
      optional_kept (codes "last_started") d at,
      flag_kept (codes "polling") d at,
      number_kept (codes "polls") d at,
      optional_id_kept (codes "task") d at,
    ) refl)

-- ---- histograms of poll times

filled_few : (n : ℕ) (ds : Items) → filled_in (values_of (small_items ds n)) ≡ filled_in (values_of ds)
filled_few n no_items = refl
filled_few n (item a no_items) = refl
filled_few n (item a (item b no_items)) = rw (number_same a n, number_same b n) refl
filled_few n (item a (item b (item c ds))) = refl

filled_wide : (ds : Items) → 14 < items_len ds → filled_in (values_of ds) ≡ None
filled_wide no_items h = refl
filled_wide (item a no_items) h = refl
filled_wide (item a (item b no_items)) h = absurd (omega arith)
filled_wide (item a (item b (item c ds))) h = refl

filled_same : (d : Data) (n : ℕ) → filled_of (small d (suc n)) ≡ filled_of d
filled_same d n = list_same filled_in n (filled_few n, filled_wide) d

-- a bucket that isn't empty
pub filled_small : (d : Data) → filled_of (small d 3) ≡ filled_of d
filled_small d = filled_same d 2

mapped_none : {A B : Type 0} (f : A → B) (o : Option A) → o ≡ None → option_map f o ≡ None
mapped_none f o none = ap (option_map f) none

-- there are no more buckets that aren't empty than there are buckets
too_many : (k n : ℕ) (bs : List (ℕ × ℕ)) → n < length bs → counts_from k n bs ≡ None
too_many k zero [] h = absurd (omega arith)
too_many k zero (b ∷ bs) h = refl
too_many k (suc n) [] h = absurd (omega arith)
too_many k (suc n) (b ∷ bs) h = by (b.0 == k) (b.1 == 0) (too_many (k + 1) n bs (omega (arith, h))) (too_many (k + 1) n (b ∷ bs) (omega (arith, h)))
  where
    by : (here none : Bool) → counts_from (k + 1) n bs ≡ None → counts_from (k + 1) n (b ∷ bs) ≡ None → cond here (cond none None (option_map (λ ns. b.1 ∷ ns) (counts_from (k + 1) n bs))) (option_map (λ ns. 0 ∷ ns) (counts_from (k + 1) n (b ∷ bs))) ≡ None
    by true true rest same = refl
    by true false rest same = mapped_none _ _ rest
    by false none rest same = mapped_none _ _ same

buckets_few : (ds : Items) → buckets_in (values_of (small_items ds 1)) ≡ buckets_in (values_of ds)
unfolding buckets_in
buckets_few ds = ap (λ o. o >>= counts_from 0 14) (each_few filled_of 1 (λ d. filled_same d 0) ds)

buckets_wide : (ds : Items) → 14 < items_len ds → buckets_in (values_of ds) ≡ None
unfolding buckets_in
buckets_wide ds h = by (each_of filled_of (values_of ds)) refl
  where
    by : (o : Option (List (ℕ × ℕ))) → each_of filled_of (values_of ds) ≡ o → (o >>= counts_from 0 14) ≡ None
    by None e = refl
    by (Some bs) e = let many = all_of filled_of ds bs e in too_many 0 14 bs (omega (arith, h, many))

buckets_kept : (key : List ℕ) (d : Data) → KeepsKeys d → buckets_at key (small d 3) ≡ buckets_at key d
buckets_kept key d at = list_kept buckets_in (buckets_few, buckets_wide) key d at

-- a task's histograms
pub times_small : (d : Data) → times_of (small d 3) ≡ times_of d
unfolding times_of waits_beside wait_times_of
times_small d = by (has_members 3 d) (has_members 5 d) refl refl
  where
    by : (three five : Bool) → has_members 3 d ≡ three → has_members 5 d ≡ five → times_of (small d 3) ≡ times_of d
    by true five is other =
        let kept = members_kept d 2 3 (omega arith) (omega arith) in
        let at = kept.1 is in
        rw (kept.0 ∙ is, is, buckets_kept (codes "counts") d at, id_kept (codes "id") d at, number_kept (codes "longest") d at) refl
    by false true is other =
        let three = members_kept d 2 3 (omega arith) (omega arith) in
        let five = members_kept d 2 5 (omega arith) (omega arith) in
        let at = five.1 other in
        rw (three.0 ∙ is, is, five.0 ∙ other, other, number_kept (codes "longest_wait") d at, buckets_kept (codes "waits") d at, buckets_kept (codes "counts") d at, id_kept (codes "id") d at, number_kept (codes "longest") d at) refl
    by false false is other =
        let three = members_kept d 2 3 (omega arith) (omega arith) in
        let five = members_kept d 2 5 (omega arith) (omega arith) in
        rw (three.0 ∙ is, is, five.0 ∙ other, other) refl
