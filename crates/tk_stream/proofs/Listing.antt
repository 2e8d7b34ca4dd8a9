-- A list that is read item by item from tokens.
use Rattle.std.proofs.Common.{◌≡◌, ◌-◌, ◌<◌, ℕ, zero, suc, arith, List, [], ◌∷◌, ◌++◌, append-nil, Bool, Option, Some, None, option_map, refl, sym, ap, ◌∙◌}
use Rattle.json.specs.Token.{Token}
use Rattle.json.specs.Json.{parse_map, after_end_array, value}
use Rattle.json.specs.Reads.{token_of}
use Rattle.json.specs.declared.token.Token as tokens
use Rattle.json.specs.declared.token.Token.TheVariants as variants
use Rattle.json.specs.declared.token.Token.TheVariants.{BeginObject, EndObject, BeginArray, EndArray, Key, String, Number, Null, Bad}
use Rattle.json.proofs.Grammar.{value_is}
use Rattle.serde_json.specs.Data.{Num, Data, null, boolean, number, string, array, object, Items, item, Members}
use Rattle.serde_json.specs.Read.{number_of}
use Rattle.tk_json.specs.Values.{value_read, items_read, rest}
use Rattle.tk_json.proofs.Growing.{mapped_none, mapped_some}
use Rattle.tk_json.proofs.Steps.{item_read, items_over, array_read, array_deep, object_read, object_deep, text_read, flag_read, null_read, number_shown}
use Rattle.tk_stream.specs.Reading.{each_of, values_of}
use Rattle.tk_stream.specs.Spelled.{listed}
use Rattle.tk_stream.proofs.Lists.{with_front, regroup}

module _ {A : Type 0} (shape : Data → Option A) where
  -- what the items are that are left, after those that were read
  abbrev pub left : List A → Items → Option (List A)
  left front ds = with_front front (each_of shape (values_of ds))

  first_of : (front : List A) (d : Data) (x : A) (ds : Items) → shape d ≡ Some x → left front (item d ds) ≡ left (front ++ x ∷ []) ds
  first_of front d x ds e = rw e (regroup front x (each_of shape (values_of ds)))

  with_first : (front : List A) (d : Data) (x : A) (o : Option (Items × List Token)) → shape d ≡ Some x → parse_map (left front) (parse_map (item d) o) ≡ parse_map (left (front ++ x ∷ [])) o
  with_first front d x None e = refl
  with_first front d x (Some p) e = ap (λ l. Some (l, p.1)) (first_of front d x p.0 e)

  -- an item of the shape
  pub listed_more : (front : List A) (depth : ℕ) (ts r : List Token) (x : A) → after_end_array ts ≡ None → parse_map shape (value_read depth ts) ≡ Some (Some x, r)
      → parse_map (left front) (items_read depth ts) ≡ parse_map (left (front ++ x ∷ [])) (items_read depth r)
  listed_more front depth ts r x going e =
      let d = mapped_some shape (value_read depth ts) (Some x) r e in
      ap (parse_map (left front)) (item_read depth ts r d.0 going d.1) ∙ with_first front d.0 x (items_read depth r) (sym d.2)

  without_first : (front : List A) (d : Data) (o : Option (Items × List Token)) (s : List Token) → shape d ≡ None → rest o ≡ Some s → parse_map (left front) (parse_map (item d) o) ≡ Some (None, s)
  without_first front d None s e passed = absurd (cc)
  without_first front d (Some p) s e passed = let last : p.1 ≡ s = cc in rw (e, last) refl

  -- an item of another shape, after which the rest was passed
  pub not_listed : (front : List A) (depth : ℕ) (ts r s : List Token) → after_end_array ts ≡ None → parse_map shape (value_read depth ts) ≡ Some (None, r) → rest (items_read depth r) ≡ Some s
      → parse_map (left front) (items_read depth ts) ≡ Some (None, s)
  not_listed front depth ts r s going e passed =
      let d = mapped_some shape (value_read depth ts) None r e in
      ap (parse_map (left front)) (item_read depth ts r d.0 going d.1) ∙ without_first front d.0 (items_read depth r) s (sym d.2) passed

  -- an item after which no array ends
  pub not_ended : (depth : ℕ) (ts r : List Token) (o : Option A) → after_end_array ts ≡ None → parse_map shape (value_read depth ts) ≡ Some (o, r) → items_read depth r ≡ None → items_read depth ts ≡ None
  not_ended depth ts r o going e none =
      let d = mapped_some shape (value_read depth ts) o r e in
      item_read depth ts r d.0 going d.1 ∙ ap (parse_map (item d.0)) none

  -- all items were of the shape
  pub listed_all : (front : List A) (depth : ℕ) (ts r : List Token) → after_end_array ts ≡ Some r → parse_map (left front) (items_read depth ts) ≡ Some (Some front, r)
  listed_all front depth ts r over = ap (parse_map (left front)) (items_over depth ts r over) ∙ ap (λ xs. Some (Some xs, r)) (append-nil front)

-- what is seen of one list is seen of another, of which there is none
pub none_listed : {B : Type 0} (f g : Items → B) (o p : Option (Items × List Token)) → parse_map f o ≡ parse_map g p → p ≡ None → o ≡ None
none_listed f g o p e none = mapped_none f o (e ∙ ap (parse_map g) none)

-- ---- the value at the key of a list

list_of_array : {A : Type 0} (shape : Data → Option A) (o : Option (Items × List Token)) → parse_map (listed shape) (parse_map array o) ≡ parse_map (λ ds. each_of shape (values_of ds)) o
list_of_array shape None = refl
list_of_array shape (Some p) = refl

pub array_listed : {A : Type 0} (shape : Data → Option A) (depth : ℕ) (all ts : List Token) → all ≡ Token.begin_array ∷ ts → 0 < depth
    → parse_map (listed shape) (value_read depth all) ≡ parse_map (λ ds. each_of shape (values_of ds)) (items_read (depth - 1) ts)
array_listed shape depth all ts is h = ap (parse_map (listed shape)) (array_read depth all ts is h) ∙ list_of_array shape (items_read (depth - 1) ts)

-- ---- a value that begins with another token than was looked for

module _ {B : Type 0} (f : Data → Option B) where
  -- nothing is seen of the value
  abbrev pub IsUnseen : Option (Data × List Token) → Type 0
  IsUnseen o = (p : Data × List Token) → o ≡ Some p → f p.0 ≡ None

  none_is : IsUnseen None
  none_is p e = absurd (cc)

  pub the_one : (d : Data) (ts : List Token) → f d ≡ None → IsUnseen (Some (d, ts))
  the_one d ts h p e = let same : p ≡ (d, ts) = cc in ap (λ q. f q.0) same ∙ h

  numbered : (ts : List Token) → ((x : Num) → f (number x) ≡ None) → (o : Option Num) → IsUnseen (option_map {U = Data × List Token} (λ d. (d, ts)) (option_map number o))
  numbered ts h None = none_is
  numbered ts h (Some x) = the_one (number x) ts (h x)

  items_are : ((ds : Items) → f (array ds) ≡ None) → (o : Option (Items × List Token)) → IsUnseen (parse_map array o)
  items_are h None = none_is
  items_are h (Some p) = the_one (array p.0) p.1 (h p.0)

  array_is : ((ds : Items) → f (array ds) ≡ None) → (depth : ℕ) (ts : List Token) → IsUnseen (value_read depth (Token.begin_array ∷ ts))
  array_is h zero ts = rw (array_deep zero _ ts refl refl) none_is
  array_is h (suc n) ts = rw (array_read (suc n) _ ts refl (omega arith)) (items_are h _)

  members_are : ((ms : Members) → f (object ms) ≡ None) → (o : Option (Members × List Token)) → IsUnseen (parse_map object o)
  members_are h None = none_is
  members_are h (Some p) = the_one (object p.0) p.1 (h p.0)

  object_is : ((ms : Members) → f (object ms) ≡ None) → (depth : ℕ) (ts : List Token) → IsUnseen (value_read depth (Token.begin_object ∷ ts))
  object_is h zero ts = rw (object_deep zero _ ts refl refl) none_is
  object_is h (suc n) ts = rw (object_read (suc n) _ ts refl (omega arith)) (members_are h _)

  ends : (depth : ℕ) (t : Token) (ts : List Token) → value depth (t ∷ ts) ≡ None → IsUnseen (value_read depth (t ∷ ts))
  ends depth t ts e = rw e none_is

  unseen_passed : (o : Option (Data × List Token)) (r : List Token) → IsUnseen o → rest o ≡ Some r → parse_map f o ≡ Some (None, r)
  unseen_passed None r h e = absurd (cc)
  unseen_passed (Some p) r h e = let last : p.1 ≡ r = cc in rw (h p refl, last) refl

  module _ (nothing : f null ≡ None) (flags : (b : Bool) → f (boolean b) ≡ None) (numbers : (x : Num) → f (number x) ≡ None) (texts : (s : List ℕ) → f (string s) ≡ None) where
    unseen : (depth : ℕ) (t : tokens.Token) (ts : List Token) → (t ≡ BeginArray → (ds : Items) → f (array ds) ≡ None) → (t ≡ BeginObject → (ms : Members) → f (object ms) ≡ None) → IsUnseen (value_read depth (token_of t ∷ ts))
    unseen depth BeginObject ts arrays objects = object_is (objects refl) depth ts
    unseen depth EndObject ts arrays objects = ends depth Token.end_object ts (value_is depth _)
    unseen depth BeginArray ts arrays objects = array_is (arrays refl) depth ts
    unseen depth EndArray ts arrays objects = ends depth Token.end_array ts (value_is depth _)
    unseen depth (Key s) ts arrays objects = ends depth (Token.key s.now) ts (value_is depth _)
    unseen depth (String s) ts arrays objects = rw (text_read depth _ ts s.now refl) (the_one (string s.now) ts (texts s.now))
    unseen depth (Number s) ts arrays objects = rw (number_shown depth _ ts s.now refl) (numbered ts numbers (number_of s.now))
    unseen depth (variants.Bool b) ts arrays objects = rw (flag_read depth _ ts b refl) (the_one (boolean b) ts (flags b))
    unseen depth Null ts arrays objects = rw (null_read depth _ ts refl) (the_one null ts nothing)
    unseen depth Bad ts arrays objects = ends depth Token.bad ts (value_is depth _)

    pub passed_unseen : (depth : ℕ) (t : tokens.Token) (all ts r : List Token) → all ≡ token_of t ∷ ts → (t ≡ BeginArray → (ds : Items) → f (array ds) ≡ None) → (t ≡ BeginObject → (ms : Members) → f (object ms) ≡ None)
        → rest (value_read depth (token_of t ∷ ts)) ≡ Some r → parse_map f (value_read depth all) ≡ Some (None, r)
    passed_unseen depth t all ts r is arrays objects passed =
        ap (λ x. parse_map f (value_read depth x)) is ∙ unseen_passed (value_read depth (token_of t ∷ ts)) r (unseen depth t ts arrays objects) passed

-- after a value that is no array
pub other_passed : {A : Type 0} (shape : Data → Option A) (depth : ℕ) (t : tokens.Token) (all ts r : List Token) → all ≡ token_of t ∷ ts → (t ≡ BeginArray → ⊥) → rest (value_read depth (token_of t ∷ ts)) ≡ Some r
    → parse_map (listed shape) (value_read depth all) ≡ Some (None, r)
other_passed shape depth t all ts r is other passed =
    passed_unseen (listed shape) refl (λ b. refl) (λ x. refl) (λ s. refl) depth t all ts r is (λ here. absurd (other here)) (λ here ms. refl) passed
