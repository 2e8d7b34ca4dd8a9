-- Lines on a screen.
use Rattle.std.specs.Prelude.{◌-◌, ℕ, List, [], ◌∷◌, ◌++◌, take, map, flat_map, codes, Bool, true, ◌&&◌, nat_le, if◌then◌else◌}
use Rattle.tk_screen.specs.declared.canvas.Style.{Style}
use Rattle.tk_screen.specs.declared.canvas.Style.TheVariants.{Heading, Warning}
use Rattle.tk_screen.specs.declared.canvas.Canvas.{Canvas}
use Rattle.tk_screen.specs.declared.canvas.Canvas.TheVariants.{Plain, Terminal}

-- a line: its text, and how it stands out
pub record LineView : Type 0 where
  pub style : Style
  pub text : List ℕ

-- a code of the terminal: the escape, a bracket, and this
abbrev pub code : List ℕ → List ℕ
code rest = 27 ∷ 91 ∷ rest

-- a byte of printable ASCII
abbrev pub is_printable : ℕ → Bool
is_printable b = nat_le 32 b && nat_le b 126

-- a byte as it is drawn: any that isn't printable is a question mark
abbrev pub drawn : ℕ → ℕ
drawn b = if is_printable b then b else 63

-- the front of a text that has room in a line: a byte takes one column
abbrev pub fitting : Canvas → List ℕ → List ℕ
fitting Plain text = text
fitting (Terminal size colors) text = take size.columns text

-- the first lines, which have room on a screen: the last line of a terminal stays free
abbrev pub fitting_lines : Canvas → List LineView → List LineView
fitting_lines Plain lines = lines
fitting_lines (Terminal size colors) lines = take (size.lines - 1) lines

-- before a line's text: a terminal's line is cleared, and colored
abbrev pub line_start : Canvas → Style → List ℕ
line_start Plain style = []
line_start (Terminal size true) Heading = code (codes "K") ++ code (codes "7m")
line_start (Terminal size true) Warning = code (codes "K") ++ code (codes "31m")
line_start (Terminal size colors) style = code (codes "K")

-- after it: what was colored ends, and the line
abbrev pub line_end : Canvas → Style → List ℕ
line_end Plain style = 10 ∷ []
line_end (Terminal size true) Heading = code (codes "0m") ++ 10 ∷ []
line_end (Terminal size true) Warning = code (codes "0m") ++ 10 ∷ []
line_end (Terminal size colors) style = 10 ∷ []

-- a line
abbrev pub line_text : Canvas → LineView → List ℕ
line_text canvas line = line_start canvas line.style ++ (map drawn (fitting canvas line.text) ++ line_end canvas line.style)

abbrev pub lines_text : Canvas → List LineView → List ℕ
lines_text canvas lines = flat_map (line_text canvas) lines

-- before the lines: a terminal's cursor goes to its first column and line
abbrev pub screen_start : Canvas → List ℕ
screen_start Plain = []
screen_start (Terminal size colors) = code (codes "H")

-- after them: an empty line, or the rest of a terminal is cleared
abbrev pub screen_end : Canvas → List ℕ
screen_end Plain = 10 ∷ []
screen_end (Terminal size colors) = code (codes "J")

-- a screen of lines
abbrev pub screen_text : Canvas → List LineView → List ℕ
screen_text canvas lines = screen_start canvas ++ (lines_text canvas (fitting_lines canvas lines) ++ screen_end canvas)
