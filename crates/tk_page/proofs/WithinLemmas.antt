-- The boxes of a strip stay within it, and the steps of a course add up.
use Rattle.std.proofs.Common.{◌≡◌, ℕ, ◌+◌, ◌-◌, ◌*◌, ◌/◌, ◌^◌, ◌<◌, ◌≤◌, ◌==◌, nat_lt, nat_le, min, max, Bool, true, false, ◌||◌, if◌then◌else◌, List, [], ◌∷◌, ◌++◌, refl, ap, ◌∙◌, arith}
use native.Mathlib.Nat.{div-le_of_le-mul, div-mul-le_self, le-div_iff_mul-le, mul-le-mul_right}
use Rattle.tk_core.specs.Lists.{capped, total}
use Rattle.tk_page.specs.Figures.{mean_of, share_of, watched, wide_of, x_of}
use Rattle.tk_page.specs.Samples.{step_of, time_of}
use Rattle.tk_page.specs.Picture.{ends_at, high_of, part_box, part_high, split_of}
use Rattle.tk_page.specs.Strips.{box_of, busy_height, mark_height, mark_of, steps_from, wait_height, waited_in, width_of}
use Rattle.tk_page.specs.Within.{IsWithin, Rises}
use Rattle.tk_page.specs.declared.figures.Scale.{Scale}
use Rattle.tk_page.specs.declared.blame.Charge.{Charge}
use Rattle.tk_page.specs.declared.picture.Split.{Split}
use Rattle.tk_page.specs.declared.picture.Whom.{Whom}
use Rattle.tk_page.specs.declared.picture.Whom.TheVariants as whom
use Rattle.tk_page.specs.declared.sample.Sample.{Sample}
use Rattle.tk_page.specs.declared.sample.Step.{Step}
use Rattle.tk_page.specs.declared.boxes.Boxes.{Boxes}
use Rattle.tk_page.specs.declared.boxes.Boxes.TheVariants as which

-- ---- shares

-- a share is at most the whole
pub share_most : (part whole : ℕ) → share_of part whole ≤ 1000
share_most part whole = by (whole == 0) (nat_le whole part) refl refl where
  by : (none all : Bool) → (whole == 0) ≡ none → nat_le whole part ≡ all → share_of part whole ≤ 1000
  by true all a b = rw a (omega arith)
  by false true a b = rw (a, b) (omega arith)
  by false false a b = let below : part ≤ whole = grind arith in rw (a, b) (div-le_of_le-mul whole (omega (arith, below)))

-- a part of a share is at most as many
pub part_most : (n part whole : ℕ) → share_of part whole * n / 1000 ≤ n
part_most n part whole = div-le_of_le-mul 1000 {m = share_of part whole * n} (mul-le-mul_right n (share_most part whole))

-- ---- heights

busy_most : (step : Step) → busy_height step ≤ 16
busy_most step = by (nat_lt 0 step.busy) refl where
  by : (b : Bool) → nat_lt 0 step.busy ≡ b → busy_height step ≤ 16
  by true e = rw e (omega (arith, part_most 16 step.busy (time_of step)))
  by false e = rw e (omega arith)

wait_most : (step : Step) → wait_height step ≤ 16 - busy_height step
wait_most step = omega arith

mark_most : (count most : ℕ) → mark_height count most ≤ 5
mark_most count most = by ((count == 0) || (most == 0)) refl where
  by : (b : Bool) → ((count == 0) || (most == 0)) ≡ b → mark_height count most ≤ 5
  by true e = rw e (omega arith)
  by false e = rw e (omega (arith, part_most 5 count most))

-- the busy and the waiting share of a step have room
pub heights_fit : (step : Step) → busy_height step + wait_height step ≤ 16
heights_fit step = omega (arith, busy_most step, wait_most step)

-- ---- places

-- a time that is no longer has no more units
units_more : {m n : ℕ} (unit : ℕ) → m ≤ n → m / (unit + 1) ≤ n / (unit + 1)
units_more {m} {n} unit le = (le-div_iff_mul-le {k = unit + 1} {x = m / (unit + 1)} {y = n} (omega arith)).1 (omega (arith, le, div-mul-le_self m (unit + 1)))

-- no moment stands beyond the right edge
pub x_most : (scale : Scale) (moment : ℕ) → x_of scale moment ≤ wide_of scale
x_most scale moment = omega (arith, units_more (watched scale / 1000) within) where
  within : min moment scale.now - scale.start ≤ min scale.now scale.now - scale.start
  within = omega arith

-- nor does a step end there
pub width_most : (scale : Scale) (step : Step) → x_of scale step.from + width_of scale step ≤ wide_of scale
width_most scale step = omega (arith, x_most scale step.from, x_most scale step.to)

-- ---- boxes

mark_within : (scale : Scale) (step : Step) (count most : ℕ) → IsWithin (wide_of scale) 22 (mark_of (x_of scale step.from) (width_of scale step) count most)
mark_within scale step count most = record {
  across = narrower (x_of scale step.from) (width_of scale step) (wide_of scale) (nat_lt 4 (width_of scale step)) (width_most scale step);
  down = omega arith;
  up = omega (arith, mark_most count most);
} where
  narrower : (x wide most : ℕ) (b : Bool) → x + wide ≤ most → x + (if b then wide - 2 else wide) ≤ most
  narrower x wide most true h = omega (arith, h)
  narrower x wide most false h = h

-- the box of a step stays within the strip
pub box_within : (scale : Scale) (kind : Boxes) (step : Step) → IsWithin (wide_of scale) 22 (box_of scale kind step)
box_within scale which.Busy step = record { across = width_most scale step; down = omega arith; up = busy_most step }
box_within scale which.Wait step = record { across = width_most scale step; down = omega arith; up = wait_most step }
box_within scale (which.Wakes most) step = mark_within scale step step.wakes most
box_within scale (which.Own most) step = mark_within scale step step.own most

-- ---- the picture of who waited for whom

high_most : (top n : ℕ) → high_of top n ≤ 60
high_most top n = part_most 60 n (max top 1000)

ends_most : (top : ℕ) (kind : Whom) (s : Split) → ends_at top kind s ≤ 60
ends_most top whom.First s = high_most top s.first
ends_most top whom.Second s = high_most top (capped (s.first + s.second))
ends_most top whom.Rest s = high_most top s.waited

-- the box of a part stays within the drawing
pub part_within : (scale : Scale) (top : ℕ) (kind : Whom) (s : Split) → IsWithin (wide_of scale) 60 (part_box scale top kind s)
part_within scale top kind s = record {
  across = omega (arith, x_most scale s.from, x_most scale s.to);
  down = omega arith;
  up = let end = ends_most top kind s in omega (arith, end);
}

quotient_more : (k m n : ℕ) → 0 < k → m ≤ n → m / k ≤ n / k
quotient_more k m n some le = (le-div_iff_mul-le {k = k} {x = m / k} {y = n} some).1 (omega (arith, le, div-mul-le_self m k))

-- more is no less of the same whole
share_more : (m n whole : ℕ) → m ≤ n → share_of m whole ≤ share_of n whole
share_more m n whole le = by (whole == 0) (nat_le whole n) refl refl where
  by : (none all : Bool) → (whole == 0) ≡ none → nat_le whole n ≡ all → share_of m whole ≤ share_of n whole
  by true all a b = rw a (omega arith)
  by false true a b = let most = share_most m whole in rw (a, b) (rw a at most)
  by false false a b =
      let some : 0 < whole = grind arith in
      let less : nat_le whole m ≡ false = grind arith in
      rw (a, b, less) (quotient_more whole (1000 * m) (1000 * n) some (omega (arith, le)))

high_more : (top m n : ℕ) → m ≤ n → high_of top m ≤ high_of top n
high_more top m n le = omega (arith, share_more m n (max top 1000) le)

-- the parts of a step are together as high as the step
pub parts_add : (top : ℕ) (first second : List Charge) (step : Step)
    → part_high top whom.First (split_of first second step) + part_high top whom.Second (split_of first second step) + part_high top whom.Rest (split_of first second step)
    ≡ high_of top (waited_in step)
parts_add top first second step =
    let s = split_of first second step in
    let few : waited_in step ≤ 2 ^ 64 - 1 = mean_most step.sched (time_of step) in
    let one = high_more top s.first (capped (s.first + s.second)) (omega (arith, few)) in
    let both = high_more top (capped (s.first + s.second)) s.waited (omega (arith, few)) in
    omega (arith, one, both)
  where
    mean_most : (part whole : ℕ) → mean_of part whole ≤ 2 ^ 64 - 1
    mean_most part whole = by (whole == 0) where
      by : (b : Bool) → (if b then 0 else capped (1000 * part / whole)) ≤ 2 ^ 64 - 1
      by true = omega arith
      by false = omega arith

-- ---- steps

module _ (number : Sample → ℕ) (gained : Step → ℕ) (gains : (s t : Sample) → gained (step_of s t) ≡ number t - number s) where
  -- the last of samples, from one on
  abbrev last_from : Sample → List Sample → Sample
  last_from before [] = before
  last_from before (s ∷ ss) = last_from s ss

  one_more : (before s : Sample) (ss : List Sample) (b : Bool) → nat_lt before.now s.now ≡ b → number before ≤ number s
      → (s.now ≤ before.now → number s ≡ number before)
      → number before + total gained ((if b then step_of before s ∷ [] else []) ++ steps_from s ss) ≡ number s + total gained (steps_from s ss)
  one_more before s ss true e rises stays = omega (arith, gains before s, rises)
  one_more before s ss false e rises stays = let still : s.now ≤ before.now = grind arith in omega (arith, stays still)

  adds_from : (before : Sample) (ss : List Sample) → Rises number before ss → number before + total gained (steps_from before ss) ≡ number (last_from before ss)
  adds_from before [] h = omega arith
  adds_from before (s ∷ ss) h = one_more before s ss (nat_lt before.now s.now) refl h.0 h.1.0 ∙ adds_from s ss h.1.1

  is_last : (before : Sample) (ss : List Sample) (last : Sample) → last_from before (ss ++ last ∷ []) ≡ last
  is_last before [] last = refl
  is_last before (s ∷ ss) last = is_last s ss last

  -- what was gained in the steps adds up
  pub steps_add : (before : Sample) (ss : List Sample) (last : Sample) → number before ≡ 0 → Rises number before (ss ++ last ∷ [])
      → total gained (steps_from before (ss ++ last ∷ [])) ≡ number last
  steps_add before ss last none h = omega (arith, none, adds_from before (ss ++ last ∷ []) h, ap number (is_last before ss last))
