-- How the parts of a page stand in its text.
use Rattle.std.specs.Prelude.{ℕ, ◌/◌, ◌%◌, ◌==◌, nat_lt, nat_le, if◌then◌else◌, Option, Some, None, List, [], ◌∷◌, ◌++◌, codes, decimal, length, map, flat_map}
use Rattle.tk_paper.specs.Escaping.{after_byte, escaped}
use Rattle.tk_paper.specs.Marks.{place_after, mark_text}
use Rattle.tk_paper.specs.declared.marks.Attr.{Attr}
use Rattle.tk_paper.specs.declared.marks.Attr.TheVariants as attrs
use Rattle.tk_paper.specs.declared.marks.Mark.{Mark}
use Rattle.tk_paper.specs.declared.marks.Mark.TheVariants as marks
use Rattle.tk_paper.specs.declared.marks.Place.{Place}
use Rattle.tk_paper.specs.declared.marks.Tag.{Tag}
use Rattle.tk_paper.specs.declared.paper.Part.{Part}
use Rattle.tk_paper.specs.declared.paper.Part.TheVariants as parts

-- a number's digits
abbrev pub number_of : ℕ → List ℕ
number_of n = escaped (decimal n)

-- a narrow no-break space, in UTF-8
abbrev pub gap : List ℕ
gap = 226 ∷ 128 ∷ 175 ∷ []

-- what stands before a digit: a gap, if it and those behind it are a number of threes
abbrev pub gap_before : ℕ → List ℕ
gap_before left = if left % 3 == 0 then gap else []

-- digits, each with what stands before it
abbrev pub with_gaps : List ℕ → List ℕ
with_gaps [] = []
with_gaps (d ∷ ds) = gap_before (length (d ∷ ds)) ++ d ∷ with_gaps ds

-- digits in groups of three, from the last on: no gap stands before the first
abbrev pub grouped : List ℕ → List ℕ
grouped [] = []
grouped (d ∷ ds) = d ∷ with_gaps ds

-- a number as people read it: from five digits on in groups of three
abbrev pub count_of : ℕ → List ℕ
count_of n = escaped (if nat_lt n 10000 then decimal n else grouped (decimal n))

-- an attribute with its value
abbrev pub attr_of : Attr → List ℕ → List ℕ
attr_of attr value = mark_text (marks.Attr attr) ++ (escaped value ++ mark_text marks.Quote)

-- an attribute whose value is a number
abbrev pub number_attr_of : Attr → ℕ → List ℕ
number_attr_of attr value = mark_text (marks.Attr attr) ++ (number_of value ++ mark_text marks.Quote)

-- a first tag without attributes
abbrev pub start_of : Tag → List ℕ
start_of tag = mark_text (marks.Open tag) ++ mark_text marks.End

-- a first tag with a class
abbrev pub class_of : Tag → List ℕ → List ℕ
class_of tag class = mark_text (marks.Open tag) ++ (attr_of attrs.Class class ++ mark_text marks.End)

-- a number of tenths of a unit: with the digit after the point where it is below this
abbrev pub tenths_of : ℕ → ℕ → List ℕ → List ℕ
tenths_of few tenths unit =
    if nat_lt tenths few then count_of (tenths / 10) ++ (escaped (codes ".") ++ (number_of (tenths % 10) ++ escaped unit)) else count_of (tenths / 10) ++ escaped unit

-- a unit after a number: the no-break space between them keeps both on one line
abbrev pub unit : List ℕ → List ℕ
unit name = 194 ∷ 160 ∷ name

-- a share in thousandths, in percent: below 10 % with one digit after the point
abbrev pub share_text : ℕ → List ℕ
share_text share = tenths_of 100 share (unit (codes "%"))

-- a time in nanoseconds, in the greatest unit of which it has one: rounded down to a tenth, with the digit after the point below 100
abbrev pub span_text : ℕ → List ℕ
span_text ns =
    if nat_le 1000000000 ns then tenths_of 1000 (ns / 100000000) (unit (codes "s")) else
    (if nat_le 1000000 ns then tenths_of 1000 (ns / 100000) (unit (codes "ms")) else
    (if nat_le 1000 ns then tenths_of 1000 (ns / 100) (unit (194 ∷ 181 ∷ 115 ∷ [])) else number_of ns ++ escaped (unit (codes "ns"))))

-- a number of thousandths, rounded down to one digit after the point
abbrev pub mean_text : ℕ → List ℕ
mean_text mean = count_of (mean / 1000) ++ (escaped (codes ".") ++ number_of (mean % 1000 / 100))

-- a part of a page: as `Part`, with the bytes of its texts
pub data Bit : Type 0 where
  text : List ℕ → Bit
  number : ℕ → Bit
  count : ℕ → Bit
  share : ℕ → Bit
  span : ℕ → Bit
  mean : ℕ → Bit
  opens : Tag → Bit
  ends : Bit
  close : Tag → Bit
  start : Tag → Bit
  class : Tag → List ℕ → Bit
  having : Attr → List ℕ → Bit
  having_number : Attr → ℕ → Bit
  value : Attr → Bit
  quote : Bit

-- what a part is
abbrev pub bit_of : Part → Bit
bit_of (parts.Text t) = text t.now
bit_of (parts.Number n) = number n
bit_of (parts.Count n) = count n
bit_of (parts.Share n) = share n
bit_of (parts.Span n) = span n
bit_of (parts.Mean n) = mean n
bit_of (parts.Open tag) = opens tag
bit_of parts.End = ends
bit_of (parts.Close tag) = close tag
bit_of (parts.Start tag) = start tag
bit_of (parts.Class tag c) = class tag c.now
bit_of (parts.With attr v) = having attr v.now
bit_of (parts.WithNumber attr v) = having_number attr v
bit_of (parts.Value attr) = value attr
bit_of parts.Quote = quote

-- a part as it stands in the page
abbrev pub bit_text : Bit → List ℕ
bit_text (text t) = escaped t
bit_text (number n) = number_of n
bit_text (count n) = count_of n
bit_text (share n) = share_text n
bit_text (span n) = span_text n
bit_text (mean n) = mean_text n
bit_text (opens tag) = mark_text (marks.Open tag)
bit_text ends = mark_text marks.End
bit_text (close tag) = mark_text (marks.Close tag)
bit_text (start tag) = start_of tag
bit_text (class tag c) = class_of tag c
bit_text (having attr v) = attr_of attr v
bit_text (having_number attr v) = number_attr_of attr v
bit_text (value attr) = mark_text (marks.Attr attr)
bit_text quote = mark_text marks.Quote

-- parts, one after the other
unfoldable pub text_of : List Bit → List ℕ
text_of = flat_map bit_text

-- where a page's text goes on after a piece of markup: nowhere where it went on nowhere, or where the piece has no place
abbrev pub after_mark : Mark → Option Place → Option Place
after_mark mark None = None
after_mark mark (Some place) = place_after place mark

-- after a text, which has no place within a tag, even where it has no bytes
abbrev pub after_text : Option Place → Option Place
after_text None = None
after_text (Some place) = after_byte place

-- after an attribute with its value
abbrev pub after_attr : Attr → Option Place → Option Place
after_attr attr place = after_mark marks.Quote (after_text (after_mark (marks.Attr attr) place))

-- after a first tag without attributes
abbrev pub after_start : Tag → Option Place → Option Place
after_start tag place = after_mark marks.End (after_mark (marks.Open tag) place)

-- after a first tag with a class
abbrev pub after_class : Tag → Option Place → Option Place
after_class tag place = after_mark marks.End (after_attr attrs.Class (after_mark (marks.Open tag) place))

-- after a part
abbrev pub after_bit : Bit → Option Place → Option Place
after_bit (text t) place = after_text place
after_bit (number n) place = after_text place
after_bit (count n) place = after_text place
after_bit (share n) place = after_text place
after_bit (span n) place = after_text place
after_bit (mean n) place = after_text place
after_bit (opens tag) place = after_mark (marks.Open tag) place
after_bit ends place = after_mark marks.End place
after_bit (close tag) place = after_mark (marks.Close tag) place
after_bit (start tag) place = after_start tag place
after_bit (class tag c) place = after_class tag place
after_bit (having attr v) place = after_attr attr place
after_bit (having_number attr v) place = after_attr attr place
after_bit (value attr) place = after_mark (marks.Attr attr) place
after_bit quote place = after_mark marks.Quote place

-- after parts, one after the other
unfoldable pub after_all : List Bit → Option Place → Option Place
after_all [] place = place
after_all (b ∷ bs) place = after_all bs (after_bit b place)
