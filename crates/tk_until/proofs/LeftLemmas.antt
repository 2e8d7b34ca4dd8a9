-- What is left of a reader, where bytes of it are held.
use Rattle.std.proofs.Common.{◌≡◌, ℕ, ◌+◌, ◌<◌, List, [], ◌∷◌, ◌++◌, length, take, Bool, true, false, cond, Option, Some, None, Result, refl, ap, ap₂, sym, subst, ◌∙◌, append_assoc, length-append, arith}
use Rattle.std.specs.Prelude.{option_map}
use Rattle.std.specs.Io.KnownBytes.{Consumes, IsAtEnd, Keeps, ReadConsumes}
use Rattle.tk_client.specs.Meaning.{cut}
use Rattle.tk_until.specs.Front.{front, lines_until}
use Rattle.tk_until.specs.Held.{HeldView, Adds, begun_with, given_until, held_len, left_until, nothing_held}
use Rattle.tk_until.proofs.Fronts.{begun-nil}

pub left-none : (v : HeldView) (a : Option (List ℕ)) → left_until None v a ≡ a
left-none v None = refl
left-none v (Some xs) = refl

-- a new reader gives the front of what the reader below gives
pub new_left : (until : Option ℕ) (remaining : Option (List ℕ)) → left_until until nothing_held remaining ≡ option_map (front until) remaining
new_left until None = refl
new_left None (Some xs) = refl
new_left (Some until) (Some xs) = ap (λ (ls : List (List ℕ)). Some (lines_until until ls)) (begun-nil (cut xs).0)

kept_consumes : (a b c : Option (List ℕ)) (bytes : List ℕ) → Keeps a b → Consumes b c bytes → Consumes a c bytes
kept_consumes None b c bytes kept h = tt
kept_consumes (Some xs) None c bytes kept h = absurd kept
kept_consumes (Some xs) (Some ys) None bytes kept h = absurd h
kept_consumes (Some xs) (Some ys) (Some zs) bytes kept h = sym kept ∙ h

-- what is given after the lines that were judged
abbrev coming : ℕ → HeldView → List ℕ → List ℕ
coming until v rest = cond v.ended [] (lines_until until (begun_with v.part (cut (v.more ++ rest)).0))

-- what is held has changed, and not what is still given
pub same_left : (until : ℕ) (old new : HeldView) (a : Option (List ℕ)) → ((rest : List ℕ) → given_until until new rest ≡ given_until until old rest)
    → Keeps (left_until (Some until) old a) (left_until (Some until) new a)
same_left until old new None same = tt
same_left until old new (Some xs) same = same xs

-- bytes were read that are held now
pub added : (until n : ℕ) (old new : HeldView) (a b : Option (List ℕ)) → Adds old new a b n → Keeps (left_until (Some until) old a) (left_until (Some until) new b)
added until n old new None b h = tt
added until n old new (Some xs) None h = absurd h.2
added until n old new (Some xs) (Some ys) h =
    ap (λ (v : HeldView). given_until until v ys) h.1
    ∙ ap (λ (l : List ℕ). old.judged ++ cond old.ended [] (lines_until until (begun_with old.part (cut l).0))) (append_assoc old.more h.0 ys ∙ ap (λ (l : List ℕ). old.more ++ l) (sym h.2))

-- nothing is left at the end of the reader, where no line waits
pub at_end : (until : ℕ) (v : HeldView) (a : Option (List ℕ)) → v.judged ≡ [] → IsAtEnd a → (v.ended ≡ false → v.more ≡ []) → IsAtEnd (left_until (Some until) v a)
at_end until v None none end searched = tt
at_end until v (Some xs) none end searched = by v.ended refl
  where
    by : (e : Bool) → v.ended ≡ e → given_until until v xs ≡ []
    by true is = rw (none, is) refl
    by false is = let m : v.more ≡ [] = searched is in let gone : xs ≡ [] = end in rw (none, is, m, gone) refl

-- nor after a line that is later
pub after_later : (until : ℕ) (v : HeldView) (a : Option (List ℕ)) → v.judged ≡ [] → v.ended ≡ true → IsAtEnd (left_until (Some until) v a)
after_later until v None none is = tt
after_later until v (Some xs) none is = rw (none, is) refl

-- nothing was read
pub unread : (until : ℕ) (old new : HeldView) (a b : Option (List ℕ)) → new ≡ old → Keeps a b → Keeps (left_until (Some until) old a) (left_until (Some until) new b)
unread until old new None b is kept = tt
unread until old new (Some xs) None is kept = absurd kept
unread until old new (Some xs) (Some ys) is kept = ap₂ (λ (v : HeldView) (l : List ℕ). given_until until v l) is kept

pub added_len : (n : ℕ) (old new : HeldView) (a b : Option (List ℕ)) → Adds old new a b n → held_len new ≡ held_len old + n
added_len n old new a b h = ap held_len h.1 ∙ omega (arith, length-append old.more h.0, h.3)

nil_right : (xs ys : List ℕ) → xs ++ ys ≡ [] → ys ≡ []
nil_right [] ys h = h
nil_right (x ∷ xs) ys h = absurd (cc)

module _ (until : ℕ) (mid new : HeldView) (b : Option (List ℕ)) (bytes : List ℕ) (gives : mid.judged ≡ bytes ++ new.judged) (rest : new ≡ record mid { judged = new.judged }) where
  gave_known : (c : Option (List ℕ)) → Consumes (left_until (Some until) mid c) (left_until (Some until) new c) bytes
  gave_known None = tt
  gave_known (Some ys) =
      ap (λ (l : List ℕ). l ++ coming until mid ys) gives ∙ append_assoc bytes new.judged (coming until mid ys)
      ∙ ap (λ (l : List ℕ). bytes ++ (new.judged ++ l)) (sym (ap (λ (v : HeldView). coming until v ys) rest))

  -- bytes of what is held were given
  pub gave : (a : Option (List ℕ)) → Keeps a (left_until (Some until) mid b) → Consumes a (left_until (Some until) new b) bytes
  gave a kept = kept_consumes a (left_until (Some until) mid b) (left_until (Some until) new b) bytes kept (gave_known b)

  -- none was
  pub gave_none : mid.judged ≡ [] → IsAtEnd (left_until (Some until) mid b) → IsAtEnd (left_until (Some until) new b)
  gave_none none end = by b end
    where
      new_none : new.judged ≡ []
      new_none = nil_right bytes new.judged (sym gives ∙ none)

      by : (c : Option (List ℕ)) → IsAtEnd (left_until (Some until) mid c) → IsAtEnd (left_until (Some until) new c)
      by None h = tt
      by (Some ys) h = ap₂ (λ (j l : List ℕ). j ++ l) (new_none ∙ sym none) (ap (λ (v : HeldView). coming until v ys) rest) ∙ h

-- ---- a read of the whole reader

pub passes : {E : Type 0} (o : Option ℕ) (v w : HeldView) (a b : Option (List ℕ)) (r : Result ℕ E) (buf : List ℕ) → o ≡ None → ReadConsumes a b r buf
    → ReadConsumes (left_until o v a) (left_until o w b) r buf
passes o v w a b r buf is h =
    subst (λ (p : Option ℕ). ReadConsumes (left_until p v a) (left_until p w b) r buf) (sym is)
    (subst (λ (x : Option (List ℕ)). ReadConsumes x (left_until None w b) r buf) (sym (left-none v a))
    (subst (λ (x : Option (List ℕ)). ReadConsumes a x r buf) (sym (left-none w b)) h))

module _ (o : Option ℕ) (until : ℕ) (old mid new : HeldView) (a b : Option (List ℕ)) (is : o ≡ Some until) (kept : Keeps (left_until (Some until) old a) (left_until (Some until) mid b)) where
  pub kept_left : Keeps (left_until o old a) (left_until o mid b)
  kept_left = subst (λ (p : Option ℕ). Keeps (left_until p old a) (left_until p mid b)) (sym is) kept

  pub reads_held : (n : ℕ) (buf : List ℕ) → (mid.judged ≡ [] → IsAtEnd (left_until (Some until) mid b)) → mid.judged ≡ take n buf ++ new.judged
      → new ≡ record mid { judged = new.judged } → (n ≡ 0 → 0 < length buf → mid.judged ≡ [])
      → Consumes (left_until o old a) (left_until o new b) (take n buf) × (n ≡ 0 → 0 < length buf → IsAtEnd (left_until o new b))
  reads_held n buf end gives rest none =
      subst (λ (p : Option ℕ). Consumes (left_until p old a) (left_until p new b) (take n buf) × (n ≡ 0 → 0 < length buf → IsAtEnd (left_until p new b))) (sym is) (
        gave until mid new b (take n buf) gives rest (left_until (Some until) old a) kept,
        λ zero room. gave_none until mid new b (take n buf) gives rest (none zero room) (end (none zero room)),
      )
