-- Resources with their attributes, and the operations on them.
use Rattle.std.specs.Prelude.{ℕ, ◌+◌, ◌-◌, ◌==◌, Bool, true, false, ◌&&◌, is_some, is_none, Option, Some, None, if◌then◌else◌, List, [], ◌∷◌, ◌++◌, codes, length, take, filter, flat_map}
use Rattle.std.specs.List.{zip}
use Rattle.std.specs.Option.{option_map_or}
use Rattle.tk_core.specs.Lists.{capped}
use Rattle.tk_core.specs.declared.op.row.OpRow.{OpRow}
use Rattle.tk_core.specs.declared.resource.row.ResourceRow.{ResourceRow}
use Rattle.tk_ids.specs.Ids.{recorder_of, number_of}
use Rattle.tk_ids.specs.declared.attr.AttrInfo.{AttrInfo}
use Rattle.tk_ids.specs.declared.attr.AttrValue.{AttrValue}
use Rattle.tk_report.specs.Report.{op_state}
use Rattle.tk_stream.specs.declared.tables.op.Op.{Op}
use Rattle.tk_stream.specs.declared.tables.resource.Resource.{Resource}
use Rattle.tk_stream.specs.declared.tables.task.Task.{Task}
use Rattle.tk_stream.specs.Tables.{TablesView, counts_of, task_with}
use Rattle.tk_paper.specs.Parts.{Bit, text, number, count, span, opens, ends, close, start, class, having, having_number}
use Rattle.tk_paper.specs.declared.marks.Attr.TheVariants as with
use Rattle.tk_paper.specs.declared.marks.Tag.TheVariants as tags
use Rattle.tk_page.specs.declared.figures.Scale.{Scale}
use Rattle.tk_page.specs.Badges.{section}
use Rattle.tk_page.specs.Idle.{waiters}
use Rattle.tk_page.specs.Places.{id, location, more}
use Rattle.tk_page.specs.Values.{unit, value_of}

-- ---- attributes

-- which item another is a part of
abbrev pub whole : List ℕ → ℕ × ℕ → List Bit
whole words parts = text words ∷ number parts.0 ∷ text (codes ".") ∷ number parts.1 ∷ []

abbrev pub part_of : List ℕ → Option ℕ → List Bit
part_of words None = []
part_of words (Some parent) = whole words (recorder_of parent, number_of parent)

-- an attribute with its value
abbrev pub attr : AttrInfo × AttrValue → List Bit
attr (info, is) =
    start tags.Div ∷ start tags.Dt ∷ text info.name ∷ close tags.Dt ∷ start tags.Dd ∷ [] ++ (value_of is ++ (unit info.unit ++ close tags.Dd ∷ close tags.Div ∷ []))

abbrev pub each_attr : List AttrInfo → List AttrValue → List Bit
each_attr infos values = flat_map attr (zip infos values)

-- the attributes of an item, in the order in which it declared them
abbrev pub attrs : List AttrInfo → List AttrValue → List Bit
attrs infos values = start tags.Dl ∷ [] ++ (each_attr infos values ++ close tags.Dl ∷ [])

-- ---- operations

abbrev pub column : List ℕ → List ℕ → List Bit
column name colour = opens tags.Th ∷ having with.Scope (codes "col") ∷ having with.Class colour ∷ ends ∷ text name ∷ close tags.Th ∷ []

abbrev pub columns : List Bit
columns =
    start tags.Table ∷ start tags.Thead ∷ start tags.Tr ∷ [] ++ (column (codes "operation") [] ++ (column (codes "state") [] ++ (column (codes "task") []
    ++ (column (codes "polls") (codes "num") ++ (column (codes "busy") (codes "num") ++ (column (codes "attributes") []
    ++ close tags.Tr ∷ close tags.Thead ∷ start tags.Tbody ∷ []))))))

-- a task with this id: its name, or the id where it is no more there
abbrev pub task_of : List Task → ℕ → List Bit
task_of tasks n = option_map_or (λ (t : Task). text t.info.name ∷ []) (task_with n tasks) (id n)

-- the task that polls an operation, or a dash where none was set
abbrev pub polled_by : List Task → Option ℕ → List Bit
polled_by tasks None = text (226 ∷ 128 ∷ 147 ∷ []) ∷ []
polled_by tasks (Some n) = task_of tasks n

-- what an operation is: its source and its id
abbrev pub source : Op → List Bit
source o = start tags.Tr ∷ start tags.Td ∷ text o.info.source ∷ text (codes " ") ∷ start tags.Small ∷ id o.info.id

abbrev pub op_state_cell : OpRow → List Bit
op_state_cell x = close tags.Small ∷ close tags.Td ∷ start tags.Td ∷ text (op_state x) ∷ close tags.Td ∷ start tags.Td ∷ []

-- how often it was polled, and how long its polls ran
abbrev pub op_numbers : OpRow → List Bit
op_numbers x =
    close tags.Td ∷ opens tags.Td ∷ having_number with.DataV x.polls ∷ having with.Class (codes "num") ∷ ends ∷ count x.polls ∷ close tags.Td
    ∷ class tags.Td (codes "num") ∷ span x.busy ∷ close tags.Td ∷ start tags.Td ∷ []

-- the row of an operation
abbrev pub op : List Task → Op → List Bit
op tasks o =
    source o ++ (part_of (codes " part of ") o.info.parent ++ (op_state_cell o.row ++ (polled_by tasks o.row.task ++ (op_numbers o.row
    ++ (attrs o.info.attrs o.row.attrs ++ close tags.Td ∷ close tags.Tr ∷ [])))))

-- it is one of this resource, and open or not
abbrev pub is_of : Resource → Bool → Op → Bool
is_of r live o = (o.info.resource == r.info.id) && (if live then is_none o.row.dropped else is_some o.row.dropped)

-- the words for so many operations
abbrev pub op_words : ℕ → List ℕ
op_words all = if all == 1 then codes " operation, " else codes " operations, "

-- how many operations there are, and how many are open
abbrev pub op_counts : ℕ → ℕ → List Bit
op_counts all live =
    start tags.Details ∷ start tags.Summary ∷ count all ∷ text (op_words all)
    ∷ count live ∷ text (codes " open") ∷ close tags.Summary ∷ []

-- the operations of a resource, open ones first, at most 20
abbrev pub op_table : List Task → List Op → List Op → List Bit
op_table tasks live closed =
    op_counts (capped (length live + length closed)) (length live) ++ (columns ++ (flat_map (op tasks) (take 20 live)
    ++ (flat_map (op tasks) (take (20 - length live) closed) ++ (close tags.Tbody ∷ close tags.Table ∷ []
    ++ (more (capped (length live + length closed)) 20 (codes " more") ++ close tags.Details ∷ [])))))

abbrev pub ops_of : List Task → List Op → List Op → List Bit
ops_of tasks live closed = if (length live == 0) && (length closed == 0) then [] else op_table tasks live closed

abbrev pub ops : TablesView → Resource → List Bit
ops tables r = ops_of tables.tasks (filter (is_of r true) tables.ops) (filter (is_of r false) tables.ops)

-- ---- resources

abbrev pub resource_state : ResourceRow → List ℕ
resource_state x = if is_some x.dropped then codes " closed" else []

-- what a resource is: its type, its id, its kind, whether it is closed, and where it was made
abbrev pub resource_name : Resource → List Bit
resource_name r =
    class tags.Article (codes "res") ∷ start tags.H3 ∷ text r.info.concrete ∷ text (codes " ") ∷ start tags.Small ∷ [] ++ (id r.info.id
    ++ (text (codes " ") ∷ text r.info.kind ∷ text (resource_state r.row) ∷ text (32 ∷ 194 ∷ 183 ∷ 32 ∷ []) ∷ [] ++ location r.info.location))

abbrev pub part_words : List ℕ
part_words = 32 ∷ 194 ∷ 183 ∷ codes " part of "

-- how many of its poll operations were ready, and how many pending
abbrev pub polls : ℕ × ℕ → List Bit
polls (ready, pending) =
    start tags.P ∷ text (codes "poll operations: ") ∷ count ready ∷ text (codes " ready, ") ∷ count pending ∷ text (codes " pending") ∷ close tags.P ∷ []

-- a resource with its attributes, who waits for it, its poll counts and its operations
abbrev pub resource : Scale → TablesView → Resource → List Bit
resource scale tables r =
    resource_name r ++ (part_of part_words r.info.parent ++ (close tags.Small ∷ close tags.H3 ∷ [] ++ (attrs r.info.attrs r.row.attrs
    ++ (waiters scale tables r ++ (polls (counts_of r.info.id tables.counts) ++ (ops tables r ++ close tags.Article ∷ []))))))

-- the first 50 resources, in table order
abbrev pub all_resources : Scale → TablesView → List Bit
all_resources scale tables =
    section (codes "resources") (codes "Resources and their operations") ++ (close tags.H2 ∷ [] ++ (flat_map (resource scale tables) (take 50 tables.resources)
    ++ (more (length tables.resources) 50 (codes " more") ++ close tags.Section ∷ [])))

-- the section of the resources, where there are any
abbrev pub resources_section : Scale → TablesView → List Bit
resources_section scale tables = if length tables.resources == 0 then [] else all_resources scale tables
