-- Reading all handles, one after the other.
use Rattle.std.proofs.Common.{◌≡◌, ℕ, suc, ◌+◌, ◌≤◌, ◌<◌, List, [], ◌∷◌, ◌++◌, length, set, get_or, refl, ap, sym, ◌∙◌, subst, append_assoc, append-nil, arith}
use Rattle.std.proofs.lemmas.List.{length-append}
use Rattle.tk_stream.specs.Fronts.{with_rows}
use Rattle.tk_aggregator.specs.Readings.{EachReads}
use Rattle.tk_stream.specs.Tables.{changed_at}

-- ---- a list at the end of its front

module _ {A : Type 0} where
  pub from_place : (front rest : List A) (i : ℕ) (x : A) → length front ≡ i → i < length (front ++ rest) → x ≡ get_or (front ++ rest) i x → (tail : List A) × (rest ≡ x ∷ tail)
  from_place front rest i x at lt is = go front (subst (λ n. n < length (front ++ rest)) (sym at) lt) (subst (λ n. x ≡ get_or (front ++ rest) n x) (sym at) is)
    where
      head : (ys : List A) → 0 < length ys → x ≡ get_or ys 0 x → (tail : List A) × (ys ≡ x ∷ tail)
      head [] lt e = absurd (omega (arith, lt))
      head (y ∷ ys) lt e = (ys, ap (λ z. z ∷ ys) (sym e))

      go : (front : List A) → length front < length (front ++ rest) → x ≡ get_or (front ++ rest) (length front) x → (tail : List A) × (rest ≡ x ∷ tail)
      go [] lt is = head rest lt is
      go (y ∷ ys) lt is = go ys (omega (arith, lt)) is

  pub set_here : (front : List A) (x y : A) (tail : List A) (i : ℕ) → length front ≡ i → set (front ++ x ∷ tail) i y ≡ front ++ y ∷ tail
  set_here front x y tail i at = subst (λ n. set (front ++ x ∷ tail) n y ≡ front ++ y ∷ tail) at (go front)
    where
      go : (front : List A) → set (front ++ x ∷ tail) (length front) y ≡ front ++ y ∷ tail
      go [] = refl
      go (z ∷ zs) = ap (λ ys. z ∷ ys) (go zs)

  pub changed_here : (change : A → A) (front : List A) (x : A) (tail : List A) (i : ℕ) → length front ≡ i → changed_at change (front ++ x ∷ tail) i ≡ front ++ change x ∷ tail
  changed_here change front x tail i at = subst (λ n. changed_at change (front ++ x ∷ tail) n ≡ front ++ change x ∷ tail) at (go front)
    where
      go : (front : List A) → changed_at change (front ++ x ∷ tail) (length front) ≡ front ++ change x ∷ tail
      go [] = refl
      go (z ∷ zs) = ap (λ ys. z ∷ ys) (go zs)

module _ {Item Row : Type 0} (with_row : Item → Row → Item) where
  pub with_rows-push : (xs : List Item) (rs : List Row) (x : Item) (r : Row) → length xs ≡ length rs → with_rows with_row (xs ++ x ∷ []) (rs ++ r ∷ []) ≡ with_rows with_row xs rs ++ with_row x r ∷ []
  with_rows-push [] [] x r e = refl
  with_rows-push [] (q ∷ rs) x r e = absurd (omega (arith, e))
  with_rows-push (y ∷ xs) [] x r e = absurd (omega (arith, e))
  with_rows-push (y ∷ xs) (q ∷ rs) x r e = ap (λ ys. with_row y q ∷ ys) (with_rows-push xs rs x r (omega (arith, e)))

  pub length-with_rows : (xs : List Item) (rs : List Row) → length xs ≡ length rs → length (with_rows with_row xs rs) ≡ length rs
  length-with_rows [] [] e = refl
  length-with_rows [] (q ∷ rs) e = absurd (omega (arith, e))
  length-with_rows (y ∷ xs) [] e = absurd (omega (arith, e))
  length-with_rows (y ∷ xs) (q ∷ rs) e = ap suc (length-with_rows xs rs (omega (arith, e)))

  -- more items after those that were told change nothing
  pub with_rows-more : (xs more : List Item) (rs : List Row) → length rs ≤ length xs → with_rows with_row (xs ++ more) rs ≡ with_rows with_row xs rs
  with_rows-more xs more [] le = refl
  with_rows-more [] more (r ∷ rs) le = absurd (omega (arith, le))
  with_rows-more (x ∷ xs) more (r ∷ rs) le = ap (λ ys. with_row x r ∷ ys) (with_rows-more xs more rs (omega (arith, le)))

-- ---- the loop

module _ {Item Handle Row : Type 0} (with_row : Item → Row → Item) (reads : Handle → Row → Handle → Type 0) where
  pub reads-push : (ss : List Handle) (rs : List Row) (ts : List Handle) (s : Handle) (r : Row) (t : Handle) → EachReads reads ss rs ts → reads s r t → EachReads reads (ss ++ s ∷ []) (rs ++ r ∷ []) (ts ++ t ∷ [])
  reads-push [] [] [] s r t all one = (one, tt)
  reads-push [] [] (u ∷ ts) s r t all one = absurd all
  reads-push [] (q ∷ rs) ts s r t all one = absurd all
  reads-push (u ∷ ss) [] ts s r t all one = absurd all
  reads-push (u ∷ ss) (q ∷ rs) [] s r t all one = absurd all
  reads-push (u ∷ ss) (q ∷ rs) (v ∷ ts) s r t all one = (all.0, reads-push ss rs ts s r t all.1 one)

  -- so many handles have read
  pub record Went (i : ℕ) (items : List Item) (old : List Handle) (now : List Item) (new : List Handle) : Type 0 where
    pub front : List Item
    pub back : List Item
    pub done : List Handle
    pub rest : List Handle
    pub read : List Handle
    pub rows : List Row
    pub items_are : items ≡ front ++ back
    pub now_are : now ≡ with_rows with_row front rows ++ back
    pub old_are : old ≡ done ++ rest
    pub new_are : new ≡ read ++ rest
    pub all : EachReads reads done rows read
    pub front_count : length front ≡ i
    pub row_count : length rows ≡ i
    pub read_count : length read ≡ i
    pub together : length rest ≡ length back

  pub none_went : (items : List Item) (old : List Handle) → length old ≡ length items → Went 0 items old items old
  none_went items old e = record {
    front = [];
    back = items;
    done = [];
    rest = old;
    read = [];
    rows = [];
    items_are = refl;
    now_are = refl;
    old_are = refl;
    new_are = refl;
    all = tt;
    front_count = refl;
    row_count = refl;
    read_count = refl;
    together = e;
  }

  reads-count : (ss : List Handle) (rs : List Row) (ts : List Handle) → EachReads reads ss rs ts → length ss ≡ length ts
  reads-count [] [] [] all = refl
  reads-count [] [] (u ∷ ts) all = absurd all
  reads-count [] (q ∷ rs) ts all = absurd all
  reads-count (u ∷ ss) [] ts all = absurd all
  reads-count (u ∷ ss) (q ∷ rs) [] all = absurd all
  reads-count (u ∷ ss) (q ∷ rs) (v ∷ ts) all = ap suc (reads-count ss rs ts all.1)

  pub went_near : (i : ℕ) (items : List Item) (old : List Handle) (now : List Item) (new : List Handle) → Went i items old now new → i < length old → i < length new
  went_near i items old now new w lt =
      omega (arith, lt, ap length w.old_are, length-append w.done w.rest, ap length w.new_are, length-append w.read w.rest, reads-count w.done w.rows w.read w.all, w.read_count)

  head_of : {A B : Type 0} (rest : List A) (back : List B) (n : ℕ) → length rest ≡ length back → length rest ≡ suc n → (x : B) × ((tail : List B) × (back ≡ x ∷ tail))
  head_of rest [] n e f = absurd (omega (arith, e, f))
  head_of rest (x ∷ tail) n e f = (x, (tail, refl))

  pub went_on : (i : ℕ) (items : List Item) (old : List Handle) (now : List Item) (new : List Handle) (s : Handle) (r : Row) (t : Handle)
      → Went i items old now new → i < length old → s ≡ get_or new i s → reads s r t
      → Went (i + 1) items old (changed_at (λ x. with_row x r) now i) (set new i t)
  went_on i items old now new s r t w lt at one =
      let found = from_place w.read w.rest i s w.read_count (subst (λ xs. i < length xs) w.new_are (went_near i items old now new w lt)) (at ∙ ap (λ xs. get_or xs i s) w.new_are) in
      let first = head_of w.rest w.back (length found.0) w.together (ap length found.1) in
      let x = first.0 in
      let counts : length w.front ≡ length w.rows = w.front_count ∙ sym w.row_count in
      record {
        front = w.front ++ x ∷ [];
        back = first.1.0;
        done = w.done ++ s ∷ [];
        rest = found.0;
        read = w.read ++ t ∷ [];
        rows = w.rows ++ r ∷ [];
        items_are = w.items_are ∙ ap (λ ys. w.front ++ ys) first.1.1 ∙ sym (append_assoc w.front (x ∷ []) first.1.0);
        now_are =
            ap (λ ys. changed_at (λ y. with_row y r) ys i) (w.now_are ∙ ap (λ ys. with_rows with_row w.front w.rows ++ ys) first.1.1)
            ∙ changed_here (λ y. with_row y r) (with_rows with_row w.front w.rows) x first.1.0 i (length-with_rows with_row w.front w.rows counts ∙ w.row_count)
            ∙ sym (append_assoc (with_rows with_row w.front w.rows) (with_row x r ∷ []) first.1.0)
            ∙ ap (λ ys. ys ++ first.1.0) (sym (with_rows-push with_row w.front w.rows x r counts));
        old_are = w.old_are ∙ ap (λ ys. w.done ++ ys) found.1 ∙ sym (append_assoc w.done (s ∷ []) found.0);
        new_are =
            ap (λ ys. set ys i t) (w.new_are ∙ ap (λ ys. w.read ++ ys) found.1) ∙ set_here w.read s t found.0 i w.read_count
            ∙ sym (append_assoc w.read (t ∷ []) found.0);
        all = reads-push w.done w.rows w.read s r t w.all one;
        front_count = length-append w.front (x ∷ []) ∙ ap (λ n. n + 1) w.front_count;
        row_count = length-append w.rows (r ∷ []) ∙ ap (λ n. n + 1) w.row_count;
        read_count = length-append w.read (t ∷ []) ∙ ap (λ n. n + 1) w.read_count;
        together = omega (arith, w.together, ap length found.1, ap length first.1.1);
      }

  none_left : {A : Type 0} (xs : List A) → length xs ≤ 0 → xs ≡ []
  none_left [] le = refl
  none_left (x ∷ xs) le = absurd (omega (arith, le))

  pub all_went : (i : ℕ) (items : List Item) (old : List Handle) (now : List Item) (new : List Handle) → Went i items old now new → length old ≤ i
      → (rows : List Row) × EachReads reads old rows new × (now ≡ with_rows with_row items rows)
  all_went i items old now new w past =
      let rest : w.rest ≡ [] = none_left w.rest (omega (arith, past, ap length w.old_are, length-append w.done w.rest, reads-count w.done w.rows w.read w.all, w.read_count)) in
      let back : w.back ≡ [] = none_left w.back (omega (arith, w.together, ap length rest)) in
      let items_are : items ≡ w.front = w.items_are ∙ ap (λ ys. w.front ++ ys) back ∙ append-nil w.front in
      let old_are : old ≡ w.done = w.old_are ∙ ap (λ ys. w.done ++ ys) rest ∙ append-nil w.done in
      let new_are : new ≡ w.read = w.new_are ∙ ap (λ ys. w.read ++ ys) rest ∙ append-nil w.read in (
        w.rows,
        subst (λ ss. EachReads reads ss w.rows new) (sym old_are) (subst (λ ts. EachReads reads w.done w.rows ts) (sym new_are) w.all),
        w.now_are ∙ ap (λ ys. with_rows with_row w.front w.rows ++ ys) back ∙ append-nil (with_rows with_row w.front w.rows) ∙ ap (λ ys. with_rows with_row ys w.rows) (sym items_are),
      )

  pub went_within : (i : ℕ) (items : List Item) (old : List Handle) (now : List Item) (new : List Handle) → Went i items old now new → i < length new → i < length now
  went_within i items old now new w lt =
      omega (
        arith,
        lt,
        ap length w.new_are,
        length-append w.read w.rest,
        w.read_count,
        w.together,
        ap length w.now_are,
        length-append (with_rows with_row w.front w.rows) w.back,
        length-with_rows with_row w.front w.rows (w.front_count ∙ sym w.row_count),
        w.row_count,
      )
