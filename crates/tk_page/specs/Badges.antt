-- The words for what is odd, and the badges of a task.
use Rattle.std.specs.Prelude.{ℕ, Bool, if◌then◌else◌, List, [], ◌∷◌, ◌++◌, codes, flat_map}
use Rattle.tk_odd.specs.declared.finding.Found.{Found}
use Rattle.tk_odd.specs.declared.finding.OddKind.{OddKind}
use Rattle.tk_odd.specs.declared.words.Sign.{Sign}
use Rattle.tk_odd.specs.declared.words.Sign.TheVariants.{Runs, Waits, NeverReturns, IsLost, Loops}
use Rattle.tk_odd.specs.Words.{badge_of, sign_of}
use Rattle.tk_stream.specs.declared.tables.task.Task.{Task}
use Rattle.tk_paper.specs.Parts.{Bit, text, opens, ends, close, class, having, value, quote}
use Rattle.tk_paper.specs.declared.marks.Attr.TheVariants as attrs
use Rattle.tk_paper.specs.declared.marks.Tag.TheVariants as tags
use Rattle.tk_page.specs.declared.oddities.Signs.{Signs}
use Rattle.tk_page.specs.Odd.{carded, has_sign, is_odd_at_all, row_kinds, says}

-- the class of a sign: what holds a thread, what is not polled, and the rest
abbrev pub class_of : Sign → List ℕ
class_of Runs = codes "holds"
class_of Waits = codes "unpolled"
class_of NeverReturns = codes "never"
class_of IsLost = codes "lost"
class_of Loops = codes "self"

-- its mark
abbrev pub icon_of : Sign → List ℕ
icon_of Runs = 226 ∷ 150 ∷ 174 ∷ []
icon_of Waits = 226 ∷ 128 ∷ 166 ∷ []
icon_of NeverReturns = 226 ∷ 136 ∷ 158 ∷ []
icon_of IsLost = 226 ∷ 136 ∷ 133 ∷ []
icon_of Loops = 226 ∷ 134 ∷ 187 ∷ []

-- the badge of a kind, where it holds. Its mark is for eyes alone
abbrev pub badge : Bool → OddKind → List Bit
badge odd kind =
    if odd then opens tags.Span ∷ value attrs.Class ∷ text (codes "badge ") ∷ text (class_of (sign_of kind)) ∷ quote ∷ ends
    ∷ opens tags.Span ∷ having attrs.AriaHidden (codes "true") ∷ ends ∷ text (icon_of (sign_of kind)) ∷ close tags.Span ∷ text (codes " ") ∷ text (badge_of kind)
    ∷ close tags.Span ∷ []
    else []

-- the badge of a finding that says of a task what its row doesn't show
abbrev pub found_badge : Task → Found → List Bit
found_badge t f = badge (says t f) f.finding.kind

-- the badge of what a task's row shows
abbrev pub row_badge : Signs → Task → OddKind → List Bit
row_badge signs t kind = badge (has_sign signs kind t) kind

-- the badges of a task of which something is odd
abbrev pub badge_line : Signs → Task → List Bit
badge_line signs t =
    class tags.Div (codes "badges") ∷ [] ++ (flat_map (found_badge t) (carded signs) ++ (flat_map (row_badge signs t) row_kinds ++ close tags.Div ∷ []))

-- the badges of a task
abbrev pub badges : Signs → Task → List Bit
badges signs t = if is_odd_at_all signs t then badge_line signs t else []

-- the beginning of a section, with its head
abbrev pub section : List ℕ → List ℕ → List Bit
section id head =
    opens tags.Section ∷ having attrs.AriaLabelledby id ∷ ends ∷ opens tags.H2 ∷ having attrs.Id id ∷ ends ∷ text head ∷ []
