-- Which bytes are a name.
use Rattle.std.specs.Prelude.{ℕ, List, length, Bool, ◌&&◌, nat_le}
use Rattle.std.specs.List.{list_all}

-- printable bytes are 0x20, the space, to 0x7E, the tilde
abbrev pub is_printable : ℕ → Bool
is_printable b = nat_le 0x20 b && nat_le b 0x7E

-- a name is 1 to 1,024 printable bytes
abbrev pub is_name : List ℕ → Bool
is_name bytes = nat_le 1 (length bytes) && nat_le (length bytes) 1024 && list_all is_printable bytes
