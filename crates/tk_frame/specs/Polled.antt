-- The operations that a task polls, and what they belong to.
use Rattle.std.specs.Prelude.{◌==◌, ◌&&◌, ℕ, Bool, false, is_none, if◌then◌else◌, List, [], ◌∷◌, ◌++◌, flat_map, zip, codes, Option, Some, None}
use Rattle.std.specs.Option.{option_map_or}
use Rattle.tk_ids.specs.Ids.{id_text}
use Rattle.tk_ids.specs.declared.attr.AttrInfo.{AttrInfo}
use Rattle.tk_ids.specs.declared.attr.AttrValue.{AttrValue}
use Rattle.tk_stream.specs.declared.tables.op.Op.{Op}
use Rattle.tk_stream.specs.declared.tables.resource.Resource.{Resource}
use Rattle.tk_stream.specs.Tables.{TablesView, resource_with}
use Rattle.tk_report.specs.Report.{op_state, value_word}
use Rattle.tk_screen.specs.Screens.{LineView}
use Rattle.tk_frame.specs.Lines.{ago_text, field, location_text, type_text}

-- a task polls an operation that is open
abbrev pub is_polled_by : ℕ → Op → Bool
is_polled_by id o = is_none o.row.dropped && option_map_or (λ n. n == id) o.row.task false

-- an attribute's unit after a space, if it has one
abbrev pub unit_text : Option (List ℕ) → List ℕ
unit_text None = []
unit_text (Some unit) = codes " " ++ unit

-- an attribute with its value, after a comma
abbrev pub attr_text : AttrInfo × AttrValue → List ℕ
attr_text (info, value) = codes ", " ++ (info.name ++ (codes " " ++ (value_word value ++ unit_text info.unit)))

-- an item's attributes, in the order in which it declared them
abbrev pub attrs_text : List AttrInfo → List AttrValue → List ℕ
attrs_text infos values = flat_map attr_text (zip infos values)

-- of which resource
abbrev pub on_resource : ℕ → List ℕ
on_resource id = codes " on resource " ++ (id_text id ++ codes ", ")

-- an operation: the call that made it, its resource, its state, how long ago it was first polled, and its attributes
abbrev pub op_words : ℕ → Op → List ℕ
op_words now o =
    o.info.source ++ (on_resource o.info.resource ++ (op_state o.row ++ (codes ", first polled " ++ (ago_text now o.row.first_poll
    ++ attrs_text o.info.attrs o.row.attrs))))

-- a resource: its type and what it is for, where it was made, and its attributes
abbrev pub resource_words : Resource → List ℕ
resource_words r = type_text r.info.concrete r.info.kind ++ (location_text r.info.location ++ attrs_text r.info.attrs r.row.attrs)

-- the line of a resource
abbrev pub resource_part : Resource → List LineView
resource_part r = field (codes "resource") (resource_words r) ∷ []

-- the line of an operation, and that of its resource if this is still there
abbrev pub op_part : TablesView → Op → List LineView
op_part tables o =
    field (codes "operation") (op_words tables.now o) ∷ option_map_or resource_part (resource_with o.info.resource tables.resources) []

-- the same, if this task polls the operation
abbrev pub own_op : TablesView → ℕ → Op → List LineView
own_op tables id o = if is_polled_by id o then op_part tables o else []

-- the operations that a task polls, in table order
abbrev pub ops_part : TablesView → ℕ → List LineView
ops_part tables id = flat_map (own_op tables id) tables.ops
