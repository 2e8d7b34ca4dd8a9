-- The texts of infos, as the pieces between their names.
use Rattle.std.proofs.Common.{◌≡◌, ℕ, List, [], ◌∷◌, ◌++◌, refl, ap, ◌∙◌, append_assoc, codes, decimal}
use Rattle.json.specs.Print.{escape, escape_byte, quoted}
use Rattle.serde_json.specs.View.{items_of}
use Rattle.serde_json.specs.Written.{compact_text, items_text, members_text}
use Rattle.std.specs.Prelude.{map, true, false}
use Rattle.tk_ids.specs.declared.attr.AttrInfo.{AttrInfo}
use Rattle.tk_ids.specs.declared.info.OpInfo.{OpInfo}
use Rattle.tk_ids.specs.declared.info.ResourceInfo.{ResourceInfo}
use Rattle.tk_ids.specs.declared.info.TaskInfo.{TaskInfo}
use Rattle.tk_ids.specs.declared.location.Location.{Location}
use Rattle.tk_stream.specs.Pieces.{Takes, resource_after_attrs, op_after_attrs}
use Rattle.tk_stream.specs.Spelling.{info_data, resource_data, op_data, attr_data, location_data, optional_data, optional_text, kind_text, attr_kind_text}
use Rattle.tk_stream.proofs.Pieces.{taken}

-- a name with its quotes, before others
name_flat : (name rest : List ℕ) → quoted name ++ rest ≡ 34 ∷ (escape name ++ 34 ∷ rest)
name_flat name rest = ap (λ xs. 34 ∷ xs) (append_assoc (escape name) (34 ∷ []) rest)

-- a line and a column with the bracket after them, before others
place_flat : (line column rest : List ℕ) → (line ++ 44 ∷ (column ++ 93 ∷ [])) ++ rest ≡ line ++ 44 ∷ (column ++ 93 ∷ rest)
place_flat line column rest =
    append_assoc line (44 ∷ (column ++ 93 ∷ [])) rest ∙ ap (λ xs. line ++ 44 ∷ xs) (append_assoc column (93 ∷ []) rest)

-- a location, before others
location_flat : (at : Location) (rest : List ℕ)
    → compact_text (location_data at) ++ rest ≡ 91 ∷ 34 ∷ (escape at.file ++ 34 ∷ 44 ∷ (decimal at.line ++ 44 ∷ (decimal at.column ++ 93 ∷ rest)))
location_flat at rest = ap (λ xs. 91 ∷ xs)
    (append_assoc (quoted at.file) (44 ∷ (decimal at.line ++ 44 ∷ (decimal at.column ++ 93 ∷ []))) rest
    ∙ name_flat at.file (44 ∷ ((decimal at.line ++ 44 ∷ (decimal at.column ++ 93 ∷ [])) ++ rest))
    ∙ ap (λ xs. 34 ∷ (escape at.file ++ 34 ∷ 44 ∷ xs)) (place_flat (decimal at.line) (decimal at.column) rest))

-- what stands after the name of a location's file was written before others
pub taken_place : {bytes rest more after : List ℕ} (line column : List ℕ) → Takes bytes (34 ∷ 44 ∷ (line ++ 44 ∷ (column ++ 93 ∷ []))) rest → Takes rest more after
    → Takes bytes (34 ∷ 44 ∷ (line ++ 44 ∷ (column ++ 93 ∷ more))) after
taken_place {bytes} {rest} {more} {after} line column place others =
    record { is = (taken place others).is ∙ ap (λ xs. (34 ∷ 44 ∷ xs) ++ after) (place_flat line column more) }

pub task_text : (t : TaskInfo) → compact_text (info_data t)
    ≡ (codes "{\"id\":" ++ decimal t.id) ++ ((codes ",\"kind\":" ++ quoted (kind_text t.kind)) ++ (codes ",\"loc\":[\"" ++ (escape t.location.file
    ++ 34 ∷ 44 ∷ (decimal t.location.line ++ 44 ∷ (decimal t.location.column ++ 93 ∷ (codes ",\"name\":\"" ++ (escape t.name ++ codes "\"}")))))))
unfolding escape_byte
task_text t = ap (λ xs. codes "{\"id\":" ++ (decimal t.id ++ (codes ",\"kind\":" ++ (quoted (kind_text t.kind) ++ (codes ",\"loc\":" ++ xs)))))
    (location_flat t.location (codes ",\"name\":" ++ (quoted t.name ++ codes "}"))
    ∙ ap (λ xs. 91 ∷ 34 ∷ (escape t.location.file ++ 34 ∷ 44 ∷ (decimal t.location.line ++ 44 ∷ (decimal t.location.column ++ 93 ∷ (codes ",\"name\":" ++ xs))))) (name_flat t.name (codes "}")))

pub attr_text : (a : AttrInfo) → compact_text (attr_data a)
    ≡ 91 ∷ 34 ∷ (escape a.name ++ 34 ∷ 44 ∷ (compact_text (optional_text a.unit) ++ 44 ∷ (quoted (attr_kind_text a.kind) ++ 93 ∷ [])))
attr_text a = ap (λ xs. 91 ∷ xs) (name_flat a.name (44 ∷ (compact_text (optional_text a.unit) ++ 44 ∷ (quoted (attr_kind_text a.kind) ++ 93 ∷ []))))

-- the attributes of a resource, and what stands after them
pub resource_split : (r : ResourceInfo) → compact_text (resource_data r)
    ≡ (codes "{\"attrs\":[" ++ items_text false (items_of (map attr_data r.attrs))) ++ members_text true (resource_after_attrs r)
unfolding escape_byte
resource_split r = refl

pub resource_text : (r : ResourceInfo) → members_text true (resource_after_attrs r)
    ≡ (codes ",\"id\":" ++ decimal r.id) ++ (codes ",\"kind\":\"" ++ (escape r.kind
    ++ (codes "\",\"loc\":[\"" ++ (escape r.location.file
    ++ 34 ∷ 44 ∷ (decimal r.location.line ++ 44 ∷ (decimal r.location.column ++ 93 ∷ ((codes ",\"parent\":" ++ compact_text (optional_data r.parent))
    ++ (codes ",\"type\":\"" ++ (escape r.concrete ++ codes "\"}")))))))))
unfolding escape_byte
resource_text r = ap (λ xs. codes ",\"id\":" ++ (decimal r.id ++ (codes ",\"kind\":" ++ xs)))
    (name_flat r.kind (codes ",\"loc\":" ++ (compact_text (location_data r.location) ++ (codes ",\"parent\":" ++ (compact_text (optional_data r.parent) ++ (codes ",\"type\":" ++ (quoted r.concrete ++ codes "}"))))))
    ∙ ap (λ xs. 34 ∷ (escape r.kind ++ 34 ∷ (codes ",\"loc\":" ++ xs)))
    (location_flat r.location (codes ",\"parent\":" ++ (compact_text (optional_data r.parent) ++ (codes ",\"type\":" ++ (quoted r.concrete ++ codes "}"))))
    ∙ ap (λ xs. 91 ∷ 34 ∷ (escape r.location.file ++ 34 ∷ 44 ∷ (decimal r.location.line ++ 44 ∷ (decimal r.location.column ++ 93 ∷ (codes ",\"parent\":" ++ (compact_text (optional_data r.parent) ++ (codes ",\"type\":" ++ xs)))))))
    (name_flat r.concrete (codes "}"))))

-- the attributes of an operation, and what stands after them
pub op_split : (o : OpInfo) → compact_text (op_data o)
    ≡ (codes "{\"attrs\":[" ++ items_text false (items_of (map attr_data o.attrs))) ++ members_text true (op_after_attrs o)
unfolding escape_byte
op_split o = refl

pub op_text : (o : OpInfo) → members_text true (op_after_attrs o)
    ≡ (codes ",\"id\":" ++ decimal o.id) ++ ((codes ",\"parent\":" ++ compact_text (optional_data o.parent))
    ++ ((codes ",\"resource\":" ++ decimal o.resource) ++ (codes ",\"source\":\"" ++ (escape o.source ++ codes "\"}"))))
unfolding escape_byte
op_text o = ap (λ xs. codes ",\"id\":" ++ (decimal o.id ++ (codes ",\"parent\":" ++ (compact_text (optional_data o.parent)
    ++ (codes ",\"resource\":" ++ (decimal o.resource ++ (codes ",\"source\":" ++ xs))))))) (name_flat o.source (codes "}"))
