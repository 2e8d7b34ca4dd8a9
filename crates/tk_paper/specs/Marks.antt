-- How a page's markup is written, and where it may stand.
use Rattle.std.specs.Prelude.{ℕ, List, codes, Option, Some, None}
use Rattle.tk_paper.specs.declared.marks.Attr.{Attr}
use Rattle.tk_paper.specs.declared.marks.Attr.TheVariants as attrs
use Rattle.tk_paper.specs.declared.marks.Mark.{Mark}
use Rattle.tk_paper.specs.declared.marks.Mark.TheVariants as marks
use Rattle.tk_paper.specs.declared.marks.Place.{Place}
use Rattle.tk_paper.specs.declared.marks.Place.TheVariants as places
use Rattle.tk_paper.specs.declared.marks.Tag.{Tag}
use Rattle.tk_paper.specs.declared.marks.Tag.TheVariants as tags

-- the beginning of an element's first tag
abbrev pub open_text : Tag → List ℕ
open_text tags.A = codes "<a"
open_text tags.Article = codes "<article"
open_text tags.B = codes "<b"
open_text tags.Button = codes "<button"
open_text tags.Caption = codes "<caption"
open_text tags.Dd = codes "<dd"
open_text tags.Details = codes "<details"
open_text tags.Div = codes "<div"
open_text tags.Dl = codes "<dl"
open_text tags.Dt = codes "<dt"
open_text tags.H1 = codes "<h1"
open_text tags.H2 = codes "<h2"
open_text tags.H3 = codes "<h3"
open_text tags.Header = codes "<header"
open_text tags.I = codes "<i"
open_text tags.Input = codes "<input"
open_text tags.Label = codes "<label"
open_text tags.Li = codes "<li"
open_text tags.Main = codes "<main"
open_text tags.P = codes "<p"
open_text tags.Path = codes "<path"
open_text tags.Rect = codes "<rect"
open_text tags.Section = codes "<section"
open_text tags.Small = codes "<small"
open_text tags.Span = codes "<span"
open_text tags.Summary = codes "<summary"
open_text tags.Svg = codes "<svg"
open_text tags.Table = codes "<table"
open_text tags.Tbody = codes "<tbody"
open_text tags.Td = codes "<td"
open_text tags.Th = codes "<th"
open_text tags.Thead = codes "<thead"
open_text tags.Tr = codes "<tr"
open_text tags.Ul = codes "<ul"

-- an element's last tag
abbrev pub close_text : Tag → List ℕ
close_text tags.A = codes "</a>"
close_text tags.Article = codes "</article>"
close_text tags.B = codes "</b>"
close_text tags.Button = codes "</button>"
close_text tags.Caption = codes "</caption>"
close_text tags.Dd = codes "</dd>"
close_text tags.Details = codes "</details>"
close_text tags.Div = codes "</div>"
close_text tags.Dl = codes "</dl>"
close_text tags.Dt = codes "</dt>"
close_text tags.H1 = codes "</h1>"
close_text tags.H2 = codes "</h2>"
close_text tags.H3 = codes "</h3>"
close_text tags.Header = codes "</header>"
close_text tags.I = codes "</i>"
close_text tags.Input = codes "</input>"
close_text tags.Label = codes "</label>"
close_text tags.Li = codes "</li>"
close_text tags.Main = codes "</main>"
close_text tags.P = codes "</p>"
close_text tags.Path = codes "</path>"
close_text tags.Rect = codes "</rect>"
close_text tags.Section = codes "</section>"
close_text tags.Small = codes "</small>"
close_text tags.Span = codes "</span>"
close_text tags.Summary = codes "</summary>"
close_text tags.Svg = codes "</svg>"
close_text tags.Table = codes "</table>"
close_text tags.Tbody = codes "</tbody>"
close_text tags.Td = codes "</td>"
close_text tags.Th = codes "</th>"
close_text tags.Thead = codes "</thead>"
close_text tags.Tr = codes "</tr>"
close_text tags.Ul = codes "</ul>"

-- an attribute, up to the quote before its value
abbrev pub attr_text : Attr → List ℕ
attr_text attrs.AriaHidden = codes " aria-hidden=\""
attr_text attrs.AriaLabel = codes " aria-label=\""
attr_text attrs.AriaLabelledby = codes " aria-labelledby=\""
attr_text attrs.Class = codes " class=\""
attr_text attrs.Colspan = codes " colspan=\""
attr_text attrs.D = codes " d=\""
attr_text attrs.DataOdd = codes " data-odd=\""
attr_text attrs.DataSteps = codes " data-steps=\""
attr_text attrs.DataV = codes " data-v=\""
attr_text attrs.Height = codes " height=\""
attr_text attrs.Href = codes " href=\"#t"
attr_text attrs.Id = codes " id=\""
attr_text attrs.Preserve = codes " preserveAspectRatio=\""
attr_text attrs.Role = codes " role=\""
attr_text attrs.Scope = codes " scope=\""
attr_text attrs.Title = codes " title=\""
attr_text attrs.Type = codes " type=\""
attr_text attrs.ViewBox = codes " viewBox=\""
attr_text attrs.Width = codes " width=\""
attr_text attrs.X = codes " x=\""
attr_text attrs.Y = codes " y=\""

-- a piece of markup
abbrev pub mark_text : Mark → List ℕ
mark_text (marks.Open tag) = open_text tag
mark_text (marks.Attr attr) = attr_text attr
mark_text marks.Quote = codes "\""
mark_text marks.End = codes ">"
mark_text (marks.Close tag) = close_text tag

-- where a text goes on after a piece of markup, where that may stand there: an attribute stands within a first tag alone, and a
-- quote after a value alone
abbrev pub place_after : Place → Mark → Option Place
place_after places.Text (marks.Open tag) = Some places.Tag
place_after places.Text (marks.Close tag) = Some places.Text
place_after places.Tag (marks.Attr attr) = Some places.Value
place_after places.Tag marks.End = Some places.Text
place_after places.Value marks.Quote = Some places.Tag
place_after place mark = None
