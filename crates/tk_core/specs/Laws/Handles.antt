-- Handles that are drawn: at most 2^62, and each with the next number.
use Rattle.std.proofs.Common.{◌≡◌, ℕ, ◌+◌, ◌^◌, ◌≤◌, Bool, true, false, cond, Option, Some, None, inl, inr, arith}
use Rattle.std.specs.Prelude.{◌==◌}
use Rattle.std.proofs.lemmas.Bool.{cases_Bool, eqb-false}
use Rattle.tk_core.specs.Lists.{capped}
use Rattle.tk_core.specs.Fold.{is_accepted, number_of, refused_or}
use Rattle.tk_core.specs.declared.reply.Refusal.{Refusal}
use Rattle.tk_core.specs.declared.reply.Refusal.TheVariants.{HandlesSpent}
use Rattle.tk_core.specs.declared.reply.Reply.{Reply}
use Rattle.tk_core.specs.declared.reply.Reply.TheVariants.{Done, Number}

-- where drawing is accepted, one more handle stays within the limit
pub drawn : {Row : Type 0} (handles : ℕ) (reply : Reply Row) → is_accepted (refused_or (cond (handles == 2 ^ 62) (Some HandlesSpent) None) reply) ≡ true → handles ≤ 2 ^ 62 → capped (handles + 1) ≤ 2 ^ 62
drawn handles reply accepts within =
    elim (cases_Bool (handles == 2 ^ 62)) [
      | inl spent ↦ let no : false ≡ true = rw spent at accepts in absurd cc
      | inr free ↦ omega (arith, eqb-false handles (2 ^ 62) free)
    ]

-- a call that is only done draws none
pub draws_none : (Row : Type 0) (o : Option Refusal) (n : ℕ) → number_of {Row = Row} (refused_or o Done) ≡ Some n → ⊥
draws_none Row None n e = cc
draws_none Row (Some r) n e = cc

-- a call that draws a handle draws the next one
pub draws_next : {Row : Type 0} (handles : Row → ℕ) (row next : Row) (n : ℕ) (spent : Bool) → number_of {Row = Row} (refused_or (cond spent (Some HandlesSpent) None) (Number (handles row + 1))) ≡ Some n → handles next ≡ capped (handles row + 1)
    → (n ≡ handles row + 1) × (handles (cond (is_accepted {Row = Row} (refused_or (cond spent (Some HandlesSpent) None) (Number (handles row + 1)))) next row) ≡ capped (handles row + 1))
draws_next handles row next n true e grows = absurd cc
draws_next handles row next n false e grows = (cc, grows)
