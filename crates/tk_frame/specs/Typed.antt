-- A text that is typed at keys.
use Rattle.std.specs.Prelude.{◌==◌, ◌+◌, ◌-◌, nat_lt, ℕ, List, take, set, replicate, Bool, if◌then◌else◌}
use Rattle.tk_frame.specs.declared.typed.Typed.{Typed}

-- what was typed
abbrev pub typed_text : Typed → List ℕ
typed_text t = take t.count t.bytes

-- nothing
abbrev pub is_empty : Typed → Bool
is_empty t = t.count == 0

abbrev pub nothing : Typed
nothing = record { bytes = replicate 24 0; count = 0 }

-- one byte more, where there is room for it
abbrev pub with_byte : ℕ → Typed → Typed
with_byte byte t = if nat_lt t.count 24 then record { bytes = set t.bytes t.count byte; count = t.count + 1 } else t

-- all but the last
abbrev pub without_last : Typed → Typed
without_last t = record t { count = t.count - 1 }
