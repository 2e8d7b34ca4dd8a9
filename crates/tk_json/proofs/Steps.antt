-- What is read from tokens, a step at a time.
use Rattle.std.proofs.Common.{◌≡◌, ℕ, zero, suc, ◌-◌, ◌<◌, ◌≤◌, List, [], ◌∷◌, length, Result, Ok, Err, IfOk, OnOk, OnErr, Option, Some, None, option_map, option_and_then, Bool, refl, ap, ap₂, ◌∙◌, arith}
use Rattle.json.specs.Token.{Token}
use Rattle.json.specs.Json as json
use Rattle.json.specs.Json.{parse_map, after_end_array, read_key, items_step, members_step, items, members, value}
use Rattle.json.proofs.Grammar.{left, left_none, left_some, left-parse_map, value_is, value-begin_array, value-begin_object, items_end, members_end, members_no_key, read_key-shorter, skip_value-shorter}
use Rattle.serde_json.specs.Data.{Num, Data, null, boolean, number, string, array, object, Items, no_items, item, Members, no_members, put}
use Rattle.serde_json.specs.Read.{of_json, of_items, of_members, converted, number_of}
use Rattle.tk_json.specs.Values.{value_read, items_read, members_read, rest}

-- ---- steps that give the same where they are taken

same_steps : {A B : Type 0} (o : Option A) (f g : A → Option B) → ((x : A) → o ≡ Some x → f x ≡ g x) → option_and_then f o ≡ option_and_then g o
same_steps None f g h = refl
same_steps (Some x) f g h = h x refl

-- ---- the number that bounds the turns plays no part, where it is enough

no_value : (depth : ℕ) → value depth [] ≡ None
no_value depth = value_is depth []

fewer : (depth : ℕ) (ts : List Token) (q : json.Json × List Token) → value depth ts ≡ Some q → length q.1 < length ts
fewer depth ts q e = skip_value-shorter depth ts q.1 (ap left e)

items_turn : (depth n m : ℕ) (ts : List Token) (o : Option (List Token)) → ((r : List Token) → length r < length ts → items (value depth) n r ≡ items (value depth) m r)
    → items_step (value depth) (items (value depth) n) ts o ≡ items_step (value depth) (items (value depth) m) ts o
items_turn depth n m ts (Some r) same = refl
items_turn depth n m ts None same =
    same_steps (value depth ts) (λ q. parse_map (json.item q.0) (items (value depth) n q.1)) (λ q. parse_map (json.item q.0) (items (value depth) m q.1))
    (λ q e. ap (parse_map (json.item q.0)) (same q.1 (fewer depth ts q e)))

same_items : (depth n m : ℕ) (ts : List Token) → length ts ≤ n → length ts ≤ m → items (value depth) n ts ≡ items (value depth) m ts
unfolding items
same_items depth zero zero ts h g = refl
same_items depth zero (suc m) [] h g = rw (no_value depth) refl
same_items depth zero (suc m) (t ∷ ts) h g = absurd (omega arith)
same_items depth (suc n) zero [] h g = rw (no_value depth) refl
same_items depth (suc n) zero (t ∷ ts) h g = absurd (omega arith)
same_items depth (suc n) (suc m) ts h g = items_turn depth n m ts (after_end_array ts) (λ r less. same_items depth n m r (omega arith) (omega arith))

members_turn : (depth n m : ℕ) (k : Option (List ℕ)) (ts : List Token) → ((r : List Token) → length r < length ts → members (value depth) n r ≡ members (value depth) m r)
    → members_step (value depth) (members (value depth) n) k ts ≡ members_step (value depth) (members (value depth) m) k ts
members_turn depth n m None ts same = refl
members_turn depth n m (Some k) ts same =
    same_steps (value depth ts) (λ q. parse_map (json.member k q.0) (members (value depth) n q.1)) (λ q. parse_map (json.member k q.0) (members (value depth) m q.1))
    (λ q e. ap (parse_map (json.member k q.0)) (same q.1 (fewer depth ts q e)))

same_members : (depth n m : ℕ) (ts : List Token) → length ts ≤ n → length ts ≤ m → members (value depth) n ts ≡ members (value depth) m ts
unfolding members
same_members depth zero zero ts h g = refl
same_members depth zero (suc m) [] h g = refl
same_members depth zero (suc m) (t ∷ ts) h g = absurd (omega arith)
same_members depth (suc n) zero [] h g = refl
same_members depth (suc n) zero (t ∷ ts) h g = absurd (omega arith)
same_members depth (suc n) (suc m) ts h g =
    same_steps (read_key ts) (λ q. members_step (value depth) (members (value depth) n) q.0 q.1) (λ q. members_step (value depth) (members (value depth) m) q.0 q.1)
    (λ q e. let less = read_key-shorter ts q.0 q.1 e in members_turn depth n m q.0 q.1 (λ r lesser. same_members depth n m r (omega arith) (omega arith)))

pub nothing_read : (depth : ℕ) → value_read depth [] ≡ None
nothing_read depth = ap (converted of_json) (no_value depth)

-- ---- an item, and the items after it

item_kept : (d : Data) (r : List Token) (o : Option Items) → option_map (λ b. (b, r)) (option_map (item d) o) ≡ parse_map (item d) (option_map (λ b. (b, r)) o)
item_kept d r None = refl
item_kept d r (Some ds) = refl

item_after : (j : json.Json) (r : List Token) (o : Option Data) (more : Option (json.Items × List Token)) (later : List Token → Option (Items × List Token)) → of_json j ≡ o → converted of_items more ≡ later r
    → converted of_items (parse_map (json.item j) more) ≡ option_and_then (λ (q : Data × List Token). parse_map (item q.0) (later q.1)) (option_map (λ d. (d, r)) o)
item_after j r None None later e h = refl
item_after j r (Some d) None later e h = ap (parse_map (item d)) h
item_after j r None (Some p) later e h = rw e refl
item_after j r (Some d) (Some p) later e h = rw e (item_kept d p.1 (of_items p.0) ∙ ap (parse_map (item d)) h)

item_then : (depth n : ℕ) (ts : List Token) (o : Option (json.Json × List Token)) → length ts ≤ suc n → value depth ts ≡ o
    → converted of_items (option_and_then (λ q. parse_map (json.item q.0) (items (value depth) n q.1)) o) ≡ option_and_then (λ q. parse_map (item q.0) (items_read depth q.1)) (converted of_json o)
item_then depth n ts None h e = refl
item_then depth n ts (Some (j, r)) h e =
    let less = fewer depth ts (j, r) e in
    ap (λ more. converted of_items (parse_map (json.item j) more)) (same_items depth n (length r) r (omega arith) (omega arith)) ∙ item_after j r (of_json j) (items (value depth) (length r) r) (items_read depth) refl refl

-- where no bracket closes the array, an item comes next
pub items_next : (depth : ℕ) (ts : List Token) → after_end_array ts ≡ None
    → items_read depth ts ≡ option_and_then (λ q. parse_map (item q.0) (items_read depth q.1)) (value_read depth ts)
unfolding items
items_next depth [] going = rw (no_value depth) refl
items_next depth (t ∷ ts) going =
    ap (λ o. converted of_items (items_step (value depth) (items (value depth) (length ts)) (t ∷ ts) o)) going ∙ item_then depth (length ts) (t ∷ ts) (value depth (t ∷ ts)) (omega arith) refl

pub items_over : (depth : ℕ) (ts r : List Token) → after_end_array ts ≡ Some r → items_read depth ts ≡ Some (no_items, r)
items_over depth ts r e = ap (converted of_items) (items_end (value depth) (length ts) ts r (omega arith) e)

-- ---- a member, and the members after it

member_after : (k : List ℕ) (j : json.Json) (r : List Token) (held : Members) (o : Option Data) (more : Option (json.Members × List Token)) (later : Members → List Token → Option (Members × List Token)) → of_json j ≡ o
    → ((now : Members) → converted (λ ms. of_members ms now) more ≡ later now r)
    → converted (λ ms. of_members ms held) (parse_map (json.member k j) more) ≡ option_and_then (λ (q : Data × List Token). later (put k q.0 held) q.1) (option_map (λ d. (d, r)) o)
member_after k j r held None None later e h = refl
member_after k j r held (Some d) None later e h = h (put k d held)
member_after k j r held None (Some p) later e h = rw e refl
member_after k j r held (Some d) (Some p) later e h = rw e (h (put k d held))

member_then : (depth n : ℕ) (k : List ℕ) (held : Members) (ts : List Token) (o : Option (json.Json × List Token)) → length ts ≤ suc n → value depth ts ≡ o
    → converted (λ ms. of_members ms held) (option_and_then (λ q. parse_map (json.member k q.0) (members (value depth) n q.1)) o)
    ≡ option_and_then (λ q. members_read (put k q.0 held) depth q.1) (converted of_json o)
member_then depth n k held ts None h e = refl
member_then depth n k held ts (Some (j, r)) h e =
    let less = fewer depth ts (j, r) e in
    ap (λ more. converted (λ ms. of_members ms held) (parse_map (json.member k j) more)) (same_members depth n (length r) r (omega arith) (omega arith))
    ∙ member_after k j r held (of_json j) (members (value depth) (length r) r) (λ now ts. members_read now depth ts) refl (λ now. refl)

-- after a key comes its value
pub members_next : (held : Members) (depth : ℕ) (ts : List Token) (k : List ℕ) (s : List Token) → read_key ts ≡ Some (Some k, s)
    → members_read held depth ts ≡ option_and_then (λ q. members_read (put k q.0 held) depth q.1) (value_read depth s)
unfolding members
members_next held depth [] k s e = absurd (cc)
members_next held depth (t ∷ ts) k s e =
    let less = read_key-shorter (t ∷ ts) (Some k) s e in
    ap (λ o. converted (λ ms. of_members ms held) (option_and_then (λ q. members_step (value depth) (members (value depth) (length ts)) q.0 q.1) o)) e
    ∙ member_then depth (length ts) k held s (value depth s) (omega arith) refl

pub members_over : (held : Members) (depth : ℕ) (ts r : List Token) → read_key ts ≡ Some (None, r) → members_read held depth ts ≡ Some (held, r)
members_over held depth ts r e = ap (converted (λ ms. of_members ms held)) (members_end (value depth) (length ts) ts r (omega arith) e)

-- neither a key nor a brace
pub members_refused : (held : Members) (depth : ℕ) (ts : List Token) → read_key ts ≡ None → members_read held depth ts ≡ None
members_refused held depth ts e = ap (converted (λ ms. of_members ms held)) (members_no_key (value depth) (length ts) ts e)

-- ---- a value that a bracket or a brace begins

array_kept : (r : List Token) (o : Option Items) → option_map (λ b. (b, r)) (option_map array o) ≡ parse_map array (option_map (λ b. (b, r)) o)
array_kept r None = refl
array_kept r (Some ds) = refl

array_of : (o : Option (json.Items × List Token)) → converted of_json (parse_map json.array o) ≡ parse_map array (converted of_items o)
array_of None = refl
array_of (Some p) = array_kept p.1 (of_items p.0)

pub array_read : (depth : ℕ) (all ts : List Token) → all ≡ Token.begin_array ∷ ts → 0 < depth → value_read depth all ≡ parse_map array (items_read (depth - 1) ts)
array_read depth all ts is h = ap (value_read depth) is ∙ ap (converted of_json) (value-begin_array depth ts h) ∙ array_of (items (value (depth - 1)) (length ts) ts)

object_kept : (r : List Token) (o : Option Members) → option_map (λ b. (b, r)) (option_map object o) ≡ parse_map object (option_map (λ b. (b, r)) o)
object_kept r None = refl
object_kept r (Some ms) = refl

object_of : (o : Option (json.Members × List Token)) → converted of_json (parse_map json.object o) ≡ parse_map object (converted (λ ms. of_members ms no_members) o)
object_of None = refl
object_of (Some p) = object_kept p.1 (of_members p.0 no_members)

pub object_read : (depth : ℕ) (all ts : List Token) → all ≡ Token.begin_object ∷ ts → 0 < depth → value_read depth all ≡ parse_map object (members_read no_members (depth - 1) ts)
object_read depth all ts is h = ap (value_read depth) is ∙ ap (converted of_json) (value-begin_object depth ts h) ∙ object_of (members (value (depth - 1)) (length ts) ts)

-- no array or object may begin where none may nest
pub array_deep : (depth : ℕ) (all ts : List Token) → all ≡ Token.begin_array ∷ ts → depth ≡ 0 → value_read depth all ≡ None
unfolding value
array_deep depth all ts is none = ap (converted of_json) (ap₂ value none is)

pub object_deep : (depth : ℕ) (all ts : List Token) → all ≡ Token.begin_object ∷ ts → depth ≡ 0 → value_read depth all ≡ None
unfolding value
object_deep depth all ts is none = ap (converted of_json) (ap₂ value none is)

-- ---- a value of one token

pub text_read : (depth : ℕ) (all ts : List Token) (s : List ℕ) → all ≡ Token.string s ∷ ts → value_read depth all ≡ Some (string s, ts)
text_read depth all ts s is = ap (value_read depth) is ∙ ap (converted of_json) (value_is depth (Token.string s ∷ ts))

pub flag_read : (depth : ℕ) (all ts : List Token) (b : Bool) → all ≡ Token.boolean b ∷ ts → value_read depth all ≡ Some (boolean b, ts)
flag_read depth all ts b is = ap (value_read depth) is ∙ ap (converted of_json) (value_is depth (Token.boolean b ∷ ts))

pub null_read : (depth : ℕ) (all ts : List Token) → all ≡ Token.null ∷ ts → value_read depth all ≡ Some (null, ts)
null_read depth all ts is = ap (value_read depth) is ∙ ap (converted of_json) (value_is depth (Token.null ∷ ts))

pub number_shown : (depth : ℕ) (all ts : List Token) (s : List ℕ) → all ≡ Token.number s ∷ ts → value_read depth all ≡ option_map {U = Data × List Token} (λ d. (d, ts)) (option_map number (number_of s))
number_shown depth all ts s is = ap (value_read depth) is ∙ ap (converted of_json) (value_is depth (Token.number s ∷ ts))

pub number_read : (depth : ℕ) (all ts : List Token) (s : List ℕ) (x : Num) → all ≡ Token.number s ∷ ts → Some x ≡ number_of s → value_read depth all ≡ Some (number x, ts)
number_read depth all ts s x is e = number_shown depth all ts s is ∙ rw (← e) refl

pub number_refused : (depth : ℕ) (all ts : List Token) (s : List ℕ) → all ≡ Token.number s ∷ ts → None ≡ number_of s → value_read depth all ≡ None
number_refused depth all ts s is e = number_shown depth all ts s is ∙ rw (← e) refl

-- ---- what is left after a value

pub item_passed : (depth : ℕ) (ts r : List Token) → after_end_array ts ≡ None → rest (value_read depth ts) ≡ Some r → rest (items_read depth ts) ≡ rest (items_read depth r)
item_passed depth ts r going e =
    let first = left_some (value_read depth ts) r e in
    ap rest (items_next depth ts going ∙ ap (option_and_then (λ q. parse_map (item q.0) (items_read depth q.1))) first.1) ∙ left-parse_map (item first.0) (items_read depth r)

pub item_refused : (depth : ℕ) (ts : List Token) → after_end_array ts ≡ None → value_read depth ts ≡ None → items_read depth ts ≡ None
item_refused depth ts going e = items_next depth ts going ∙ ap (option_and_then (λ q. parse_map (item q.0) (items_read depth q.1))) e

pub item_read : (depth : ℕ) (ts r : List Token) (d : Data) → after_end_array ts ≡ None → value_read depth ts ≡ Some (d, r) → items_read depth ts ≡ parse_map (item d) (items_read depth r)
item_read depth ts r d going e = items_next depth ts going ∙ ap (option_and_then (λ q. parse_map (item q.0) (items_read depth q.1))) e

pub member_read : (held : Members) (depth : ℕ) (ts : List Token) (k : List ℕ) (s r : List Token) (d : Data) → read_key ts ≡ Some (Some k, s) → value_read depth s ≡ Some (d, r)
    → members_read held depth ts ≡ members_read (put k d held) depth r
member_read held depth ts k s r d key e = members_next held depth ts k s key ∙ ap (option_and_then (λ q. members_read (put k q.0 held) depth q.1)) e

pub member_refused : (held : Members) (depth : ℕ) (ts : List Token) (k : List ℕ) (s : List Token) → read_key ts ≡ Some (Some k, s) → value_read depth s ≡ None → members_read held depth ts ≡ None
member_refused held depth ts k s key e = members_next held depth ts k s key ∙ ap (option_and_then (λ q. members_read (put k q.0 held) depth q.1)) e

pub array_passed : (depth : ℕ) (all ts : List Token) → all ≡ Token.begin_array ∷ ts → 0 < depth → rest (value_read depth all) ≡ rest (items_read (depth - 1) ts)
array_passed depth all ts is h = ap rest (array_read depth all ts is h) ∙ left-parse_map array (items_read (depth - 1) ts)

pub object_passed : (depth : ℕ) (all ts : List Token) → all ≡ Token.begin_object ∷ ts → 0 < depth → rest (value_read depth all) ≡ rest (members_read no_members (depth - 1) ts)
object_passed depth all ts is h = ap rest (object_read depth all ts is h) ∙ left-parse_map object (members_read no_members (depth - 1) ts)

pub rest_none : {A : Type 0} (o : Option (A × List Token)) → rest o ≡ None → o ≡ None
rest_none o e = left_none o e

-- ---- what a result says

pub on_err : {A B : Type 0} (r : Result A B) (P : Type 0) → P → OnErr r P
on_err (Ok x) P p = tt
on_err (Err e) P p = p

pub ok_gives : {A B : Type 0} (r : Result A B) (P Q : Type 0) → (P → Q) → OnOk r P → OnOk r Q
ok_gives (Ok x) P Q f p = f p
ok_gives (Err e) P Q f p = tt

pub err_gives : {A B : Type 0} (r : Result A B) (P Q : Type 0) → (P → Q) → OnErr r P → OnErr r Q
err_gives (Ok x) P Q f p = tt
err_gives (Err e) P Q f p = f p

pub ok_holds : {A B : Type 0} (r : Result A B) (P Q : A → Type 0) → ((x : A) → P x → Q x) → IfOk r P → IfOk r Q
ok_holds (Ok x) P Q f p = f x p
ok_holds (Err e) P Q f p = tt
