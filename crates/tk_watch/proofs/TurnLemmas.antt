-- One turn of a watch more.
use Rattle.std.proofs.Common.{◌≡◌, ℕ, ◌<◌, List, [], ◌∷◌, ◌++◌, Bool, true, false, Option, Some, None, refl, ap, sym, subst, ◌∙◌, append_assoc, append-nil}
use Rattle.std.specs.Prelude.{fold}
use Rattle.std.proofs.lemmas.Bool.{lt-ltb}
use Rattle.std.proofs.lemmas.List.Sums.{fold-append}
use Rattle.tk_reading.specs.Pacing.{Says}
use Rattle.tk_watch.specs.Turns.{AreAsked, Drawn, IsAsked, IsPaced, Turn, after, drawn_if, has_new, is_more, read, rested, said_in, undrawn}

-- ---- what the pace said

pub says_nothing : (told : Option (List Bool)) → Says told told []
says_nothing None = tt
says_nothing (Some xs) = sym (append-nil xs)

pub says_on : (first second third : Option (List Bool)) (a b : List Bool) → Says first second a → Says second third b → Says first third (a ++ b)
says_on None second third a b x y = tt
says_on (Some xs) None third a b x y = absurd x
says_on (Some xs) (Some ys) None a b x y = absurd y
says_on (Some xs) (Some ys) (Some zs) a b x y = y ∙ ap (λ k. k ++ b) x ∙ append_assoc xs a b

-- ---- turns

said_more : (turns : List Turn) (t : Turn) → said_in (turns ++ t ∷ []) ≡ said_in turns ++ said_in (t ∷ [])
said_more [] t = refl
said_more (read p said ∷ turns) t = ap (λ k. said ++ k) (said_more turns t) ∙ sym (append_assoc said (said_in turns) (said_in (t ∷ [])))
said_more (rested ∷ turns) t = said_more turns t

asked_more : (d : Drawn) (turns : List Turn) (t : Turn) → AreAsked d turns → IsAsked (fold after d turns) t → AreAsked d (turns ++ t ∷ [])
asked_more d [] t all one = (one, tt)
asked_more d (u ∷ turns) t all one = (all.0, asked_more (after d u) turns t all.1 one)

pub is_begun : (told : Option (List Bool)) → IsPaced told told undrawn
is_begun told = record { turns = []; asked = tt; said = says_nothing told; draws = refl }

pub goes_on : (first second third : Option (List Bool)) (d : Drawn) (t : Turn) → IsPaced first second d → IsAsked d t → Says second third (said_in (t ∷ [])) → IsPaced first third (after d t)
goes_on first second third d t p asked said = record {
  turns = p.turns ++ t ∷ [];
  asked = asked_more undrawn p.turns t p.asked (subst (λ x. IsAsked x t) (sym p.draws) asked);
  said = subst (Says first third) (sym (said_more p.turns t)) (says_on first second third (said_in p.turns) (said_in (t ∷ [])) p.said said);
  draws = fold-append after undrawn p.turns (t ∷ []) ∙ ap (λ x. after x t) p.draws;
}

-- ---- whether lines came

pub new_by : (last : Option ℕ) (lines : ℕ) → ((most : ℕ) → last ≡ Some most → most < lines) → is_more last lines ≡ true
new_by None lines below = refl
new_by (Some most) lines below = lt-ltb most lines (below most refl)

-- nothing is drawn, since it may not be
pub kept_undrawn : (d : Drawn) → drawn_if false d ≡ d
kept_undrawn d = refl

-- or since no line came
pub none_new : (may : Bool) (d : Drawn) → has_new d ≡ false → drawn_if may d ≡ d
none_new true d old = rw old refl
none_new false d old = refl

pub all_drawn : (d : Drawn) → has_new d ≡ true → drawn_if true d ≡ record { bytes = d.bytes; fronts = d.fronts ++ d.bytes ∷ [] }
all_drawn d new = rw new refl

-- the pace said nothing since
pub says_none : (first second third : Option (List Bool)) (d : Drawn) → IsPaced first second d → Says second third [] → IsPaced first third d
says_none first second third d p silent = record {
  turns = p.turns;
  asked = p.asked;
  said = subst (Says first third) (append-nil (said_in p.turns)) (says_on first second third (said_in p.turns) [] p.said silent);
  draws = p.draws;
}
