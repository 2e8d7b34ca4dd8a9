use Rattle.std.proofs.Common.{◌≡◌, ◌≤◌, map}
use Rattle.tk_script.specs.Commands.{settings_after, settings_of, line_of, lines_of}
use Rattle.tk_script.specs.Pieces.{pieces_left}
use Rattle.tk_script.proofs.settings.settings_in.Given as goal

-- what was said so far
abbrev pub invariant-loop-line : goal.invariant-loop-line
invariant-loop-line l = (settings_after l.settings (map line_of (pieces_left l.line-iterator)) ≡ settings_of (lines_of l.script)) × (1 ≤ l.settings.capacity) × (l.settings.capacity ≤ 65536)
