-- Attributes as they cross the border.
use Rattle.std.specs.Prelude.{◌≡◌, ◌≤◌, ℕ, Bool, true, false, List, length, map, nat_eq, if◌then◌else◌}
use Rattle.tk_core.specs.declared.attrs.AttrOp.{AttrOp}
use Rattle.tk_core.specs.declared.attrs.AttrOp.TheVariants.{Add, Sub, Override}
use Rattle.tk_ids.specs.declared.attr.AttrValue.{AttrValue}
use Rattle.tk_ids.specs.declared.attr.AttrValue.TheVariants as values
use Rattle.tk_embed.specs.declared.attr.Attr.{Attr}

-- the value that is meant
abbrev pub value_of : Attr → AttrValue
value_of a = if nat_eq a.kind 0 then values.U64 a.number else if nat_eq a.kind 1 then values.Bool a.flag else values.I64 a.signed

-- the change that is meant
abbrev pub change_of : ℕ → Attr → AttrOp
change_of how a = if nat_eq how 0 then Add (value_of a) else if nat_eq how 1 then Sub (value_of a) else Override (value_of a)

-- the words of a row with these attributes, where they are at most 6; otherwise the words stay
abbrev pub Opens : (List AttrValue → List ℕ) → List Attr → List ℕ → List ℕ → Bool → Type 0
Opens words attrs old new result = (length attrs ≤ 6 → (result ≡ true) × (new ≡ words (map value_of attrs)))
    × (7 ≤ length attrs → (result ≡ false) × (new ≡ old))
