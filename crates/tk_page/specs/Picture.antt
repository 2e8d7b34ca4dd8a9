-- Who waited for whom: how many tasks waited at a time, drawn, and for which places.
use Rattle.std.specs.Prelude.{ℕ, ◌+◌, ◌-◌, ◌*◌, ◌/◌, ◌==◌, nat_le, min, max, if◌then◌else◌, List, [], ◌∷◌, ◌++◌, codes, fold, flat_map, length, map, slice_get, unwrap_or}
use Rattle.std.specs.Option.{option_map_or}
use Rattle.tk_core.specs.Lists.{capped}
use Rattle.tk_odd.specs.declared.held.Held.{Held}
use Rattle.tk_paper.specs.Parts.{Bit, text, number, span, mean, opens, ends, close, start, class, having, value, quote}
use Rattle.tk_paper.specs.declared.marks.Attr.TheVariants as attrs
use Rattle.tk_paper.specs.declared.marks.Tag.TheVariants as tags
use Rattle.tk_page.specs.declared.blame.Charge.{Charge}
use Rattle.tk_page.specs.declared.blamed.Blamed.{Blamed}
use Rattle.tk_page.specs.declared.figures.Scale.{Scale}
use Rattle.tk_page.specs.declared.picture.Split.{Split}
use Rattle.tk_page.specs.declared.picture.Whom.{Whom}
use Rattle.tk_page.specs.declared.picture.Whom.TheVariants as whom
use Rattle.tk_page.specs.declared.sample.Step.{Step}
use Rattle.tk_page.specs.declared.boxes.Area.{Area}
use Rattle.tk_page.specs.declared.strips.Height.{Height}
use Rattle.tk_page.specs.Figures.{mean_of, share_of, wide_of, x_of}
use Rattle.tk_page.specs.Samples.{time_of}
use Rattle.tk_page.specs.Places.{site_text}
use Rattle.tk_page.specs.Strips.{box, drawing, waited_in}

-- ---- what was waited for a place

-- what a place was charged with up to a moment: by the last line that isn't later
abbrev pub charged_until : List Charge → ℕ → ℕ
charged_until charges moment = fold (λ sum (x : Charge). if nat_le x.now moment then x.charged else sum) 0 charges

-- what it was charged with in a step
abbrev pub charged_in : List Charge → Step → ℕ
charged_in charges step = charged_until charges step.to - charged_until charges step.from

-- how many tasks waited for it in the mean of a step, in thousandths
abbrev pub waited_for : List Charge → Step → ℕ
waited_for charges step = mean_of (charged_in charges step) (time_of step)

-- a step of the picture: how many tasks waited in the mean, and how many of them for the first place and for the second. Together these are no more than
-- waited, also where a line told what a place is charged with since before the step
abbrev pub split_of : List Charge → List Charge → Step → Split
split_of first second step =
    let all = waited_in step in
    let one = min (waited_for first step) all in
    record { from = step.from; to = step.to; waited = all; first = one; second = min (waited_for second step) (all - one) }

-- the charges of the place that stands there among these; none where there is none
abbrev pub charges_at : List Blamed → ℕ → List Charge
charges_at blamed i = option_map_or (λ (b : Blamed). b.charges.items) (slice_get blamed i) []

-- the steps of the picture
abbrev pub splits_of : List Blamed → List Step → List Split
splits_of blamed steps = map (split_of (charges_at blamed 0) (charges_at blamed 1)) steps

-- ---- how high it stands

-- so many tasks, of 60 units, in a picture that goes up to so many: it goes up to one task at least
abbrev pub high_of : ℕ → ℕ → ℕ
high_of top n = share_of n (max top 1000) * 60 / 1000

-- up to where a part goes: those that waited for the first place stand below, on them those for the second, and on both all others
abbrev pub ends_at : ℕ → Whom → Split → ℕ
ends_at top whom.First s = high_of top s.first
ends_at top whom.Second s = high_of top (capped (s.first + s.second))
ends_at top whom.Rest s = high_of top s.waited

-- where it begins
abbrev pub begins_at : ℕ → Whom → Split → ℕ
begins_at top whom.First s = 0
begins_at top whom.Second s = ends_at top whom.First s
begins_at top whom.Rest s = ends_at top whom.Second s

-- how high it is
abbrev pub part_high : ℕ → Whom → Split → ℕ
part_high top kind s = ends_at top kind s - begins_at top kind s

-- the box of a part
abbrev pub part_box : Scale → ℕ → Whom → Split → Area
part_box scale top kind s = record {
  x = x_of scale s.from;
  wide = x_of scale s.to - x_of scale s.from;
  base = 60 - begins_at top kind s;
  high = part_high top kind s;
}

-- the class by which it has its colour
abbrev pub class_of : Whom → List ℕ
class_of whom.First = codes "first"
class_of whom.Second = codes "second"
class_of whom.Rest = codes "wait"

-- the boxes of a part, in the order of the steps
abbrev pub part_boxes : Scale → ℕ → Whom → List Split → List Bit
part_boxes scale top kind splits = flat_map (λ s. box (part_box scale top kind s)) splits

-- their path
abbrev pub part_path : Scale → ℕ → Whom → List Split → List Bit
part_path scale top kind splits =
    opens tags.Path ∷ having attrs.Class (class_of kind) ∷ value attrs.D
    ∷ [] ++ (part_boxes scale top kind splits ++ quote ∷ ends ∷ close tags.Path ∷ [])

-- ---- what it says

-- what a script tells of a step: where it begins, how many waited in the mean, and how many of them for the first place and for the second, in thousandths
abbrev pub split_reading : Scale → Split → List Bit
split_reading scale s =
    number (x_of scale s.from) ∷ text (codes ",") ∷ number s.waited ∷ text (codes ",") ∷ number s.first ∷ text (codes ",") ∷ number s.second ∷ text (codes ";") ∷ []

abbrev pub split_readings : Scale → List Split → List Bit
split_readings scale splits = value attrs.DataSteps ∷ [] ++ (flat_map (split_reading scale) splits ++ quote ∷ [])

-- from when to when others waited for a place, and how long
abbrev pub held_span : Scale → Held → List Bit
held_span scale held =
    text (codes ". Between ") ∷ span (unwrap_or held.since 0 - scale.start) ∷ text (codes " and ") ∷ span (held.until - scale.start)
    ∷ text (codes " others waited ") ∷ span held.charged ∷ text (codes " for ") ∷ []

-- the same, and the place
abbrev pub held_words : Scale → Blamed → List Bit
held_words scale b = held_span scale b.held ++ site_text b.place.items

-- what the picture says in words
abbrev pub picture_words : Scale → Height → List Blamed → List Bit
picture_words scale height blamed =
    having attrs.Role (codes "img") ∷ value attrs.AriaLabel ∷ text (codes "How many tasks waited at a time: at most ") ∷ mean height.most
    ∷ text (codes ", as the mean of a step") ∷ [] ++ (flat_map (held_words scale) blamed ++ quote ∷ ends ∷ [])

-- the picture: how many tasks waited at a time, and for whom
abbrev pub picture : Scale → Height → List Blamed → List Split → List Bit
picture scale height blamed splits =
    drawing (codes "total") (wide_of scale) 60 ++ (split_readings scale splits ++ (picture_words scale height blamed
    ++ (part_path scale height.top whom.First splits ++ (part_path scale height.top whom.Second splits ++ (part_path scale height.top whom.Rest splits
    ++ close tags.Svg ∷ [])))))

-- ---- its scale

-- up to how many tasks the picture goes, the half of them, and none, at its right
abbrev pub marks : Height → List Bit
marks height =
    opens tags.Div ∷ having attrs.Class (codes "marks") ∷ having attrs.AriaHidden (codes "true") ∷ ends
    ∷ start tags.Span ∷ mean (max height.top 1000) ∷ close tags.Span ∷ start tags.Span ∷ mean (max height.top 1000 / 2) ∷ close tags.Span
    ∷ start tags.Span ∷ text (codes "0") ∷ close tags.Span ∷ close tags.Div ∷ []

-- ---- what its colours say

-- the colour of a place, the place, and how long others waited for it
abbrev pub whom_key : List ℕ → Blamed → List Bit
whom_key colour b =
    start tags.Span ∷ class tags.I colour ∷ close tags.I ∷ text (codes " ") ∷ class tags.Span (codes "who")
    ∷ [] ++ (site_text b.place.items ++ close tags.Span ∷ text (codes ", ") ∷ span b.held.charged ∷ close tags.Span ∷ [])

-- the same where there is one
abbrev pub whom_key_at : List ℕ → List Blamed → ℕ → List Bit
whom_key_at colour blamed i = option_map_or (whom_key colour) (slice_get blamed i) []

-- for whom others waited, and for how long
abbrev pub whom_keys : List Blamed → List Bit
whom_keys blamed =
    class tags.P (codes "legend whom") ∷ start tags.Span ∷ text (codes "waited for") ∷ close tags.Span
    ∷ [] ++ (whom_key_at (codes "k-first") blamed 0 ++ (whom_key_at (codes "k-second") blamed 1
    ++ start tags.Span ∷ class tags.I (codes "k-wait") ∷ close tags.I ∷ text (codes " others, or nobody") ∷ close tags.Span ∷ close tags.P ∷ []))

-- the same where they waited for a place
abbrev pub whom_legend : List Blamed → List Bit
whom_legend blamed = if length blamed == 0 then [] else whom_keys blamed
