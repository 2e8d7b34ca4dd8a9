-- What a banner and a card say, by what is known.
use Rattle.std.proofs.Common.{◌≡◌, ℕ, List, [], ◌∷◌, length, Some, Bool, true, false, cond, nat_eq, not, refl, ap}
use Rattle.std.specs.Prelude.{codes}
use Rattle.std.specs.Str.{IsUtf8, is_utf8}
use Rattle.std.proofs.lemmas.Str.{IsUtf8-from_is_utf8, is_utf8-from_IsUtf8}
use Rattle.tk_core.specs.Lasting.{runs_for}
use Rattle.tk_odd.specs.declared.finding.OddKind.{OddKind}
use Rattle.tk_stream.specs.declared.tables.task.Task.{Task}
use Rattle.tk_paper.specs.Parts.{span, text}
use Rattle.tk_page.specs.declared.sample.Sample.{Sample}
use Rattle.tk_page.specs.Banner.{doing_of, doing_so}
use Rattle.tk_page.specs.Cards.{mean_wait, place_of, whom}
use Rattle.tk_page.specs.Figures.{each_of}
use Rattle.tk_page.specs.Places.{site_text}

-- the place of a task that has left is text
pub placed : (place : List ℕ) → nat_eq (length place) 0 ≡ false → IsUtf8 place
    → place_of place ≡ text (codes " It was of this place: ") ∷ text place ∷ text (codes ".") ∷ []
placed place some is = rw (some, is_utf8-from_IsUtf8 place is) refl

-- or it is none
pub unplaced : (place : List ℕ) → nat_eq (length place) 0 ≡ false → (IsUtf8 place → ⊥) → place_of place ≡ []
unplaced place some isnt = rw some (by (is_utf8 place) refl)
  where
    by : (b : Bool) → is_utf8 place ≡ b → cond (not b) [] (text (codes " It was of this place: ") ∷ text place ∷ text (codes ".") ∷ []) ≡ []
    by true e = absurd (isnt (IsUtf8-from_is_utf8 place e))
    by false e = refl

-- the place of those who waited is text
pub known : (victim : List ℕ) (time : ℕ) → IsUtf8 victim
    → whom (Some (victim, time))
    ≡ text (codes " The largest part was waited by tasks of this place, at least ") ∷ span time ∷ text (codes ": ") ∷ text victim ∷ text (codes ".") ∷ []
known victim time is = rw (is_utf8-from_IsUtf8 victim is) refl

-- or it is none
pub unknown : (victim : List ℕ) (time : ℕ) → (IsUtf8 victim → ⊥) → whom (Some (victim, time)) ≡ []
unknown victim time isnt = by (is_utf8 victim) refl
  where
    by : (b : Bool) → is_utf8 victim ≡ b
        → cond b (text (codes " The largest part was waited by tasks of this place, at least ") ∷ span time ∷ text (codes ": ") ∷ text victim ∷ text (codes ".") ∷ []) [] ≡ []
    by true e = absurd (isnt (IsUtf8-from_is_utf8 victim e))
    by false e = refl

-- some task was polled
pub waited_in_the_mean : (all : Sample) → nat_eq all.polls 0 ≡ false
    → mean_wait all ≡ text (codes " In the mean tasks waited ") ∷ span (each_of all.sched all.polls) ∷ text (codes " for a poll.") ∷ []
waited_in_the_mean all some = ap (λ b. cond b (text (codes " No task was polled.") ∷ []) (text (codes " In the mean tasks waited ") ∷ span (each_of all.sched all.polls) ∷ text (codes " for a poll.") ∷ [])) some

-- a poll of the task runs
pub holds_its_thread : (now : ℕ) (is_now : Bool) (kind : OddKind) (t : Task) → t.row.polling ≡ true
    → doing_of now is_now kind t ≡ text (codes " has held its thread for ") ∷ span (runs_for t.row now) ∷ []
holds_its_thread now is_now kind t runs = ap (λ b. cond b (text (codes " has held its thread for ") ∷ span (runs_for t.row now) ∷ []) (doing_so is_now kind)) runs

-- a place is text
pub site_is_text : (site : List ℕ) → IsUtf8 site → site_text site ≡ text site ∷ []
site_is_text site is = rw (is_utf8-from_IsUtf8 site is) refl

-- or it is none
pub site_is_no_text : (site : List ℕ) → (IsUtf8 site → ⊥) → site_text site ≡ []
site_is_no_text site isnt = by (is_utf8 site) refl
  where
    by : (b : Bool) → is_utf8 site ≡ b → cond b (text site ∷ []) [] ≡ []
    by true e = absurd (isnt (IsUtf8-from_is_utf8 site e))
    by false e = refl
