-- Why entries are refused. Each definition says what is wrong with the entry, and not in which order a body looks.
use Rattle.std.specs.Prelude.{◌≡◌, ◌≢◌, ℕ, ◌+◌, ◌==◌, Bool, true, false, ◌&&◌, ◌||◌, not, List, [], ◌∷◌, ◌++◌, length, take, nat_lt, slice_get, Some, ◌⊎◌, if◌then◌else◌}
use Rattle.std.specs.List.{flat_map, list_any}
use Rattle.tk_core.specs.OpWords as op_words
use Rattle.tk_core.specs.ResourceWords as resource_words
use Rattle.tk_core.specs.TaskWords as task_words
use Rattle.tk_core.specs.TimesWords as times_words
use Rattle.tk_ids.specs.Attributes.{are_attributes, info_names}
use Rattle.tk_ids.specs.Ids.{is_id}
use Rattle.tk_ids.specs.Names.{is_name}
use Rattle.tk_stream.specs.Lines.{is_seq}
use Rattle.tk_embed.specs.declared.entries.Answer.{Answer}
use Rattle.tk_embed.specs.declared.entries.AttrEntry.{AttrEntry}
use Rattle.tk_embed.specs.declared.entries.CountEntry.{CountEntry}
use Rattle.tk_embed.specs.declared.entries.Head.{Head}
use Rattle.tk_embed.specs.declared.entries.OpEntry.{OpEntry}
use Rattle.tk_embed.specs.declared.entries.Piece.{Piece as Place}
use Rattle.tk_embed.specs.declared.entries.ResourceEntry.{ResourceEntry}
use Rattle.tk_embed.specs.declared.entries.TaskEntry.{TaskEntry}
use Rattle.tk_embed.specs.declared.entries.TimesEntry.{TimesEntry}
use Rattle.tk_embed.specs.declared.fault.Bad.{Bad}
use Rattle.tk_embed.specs.declared.fault.Bad.TheVariants as bad
use Rattle.tk_embed.specs.declared.fault.Fault.{Fault}
use Rattle.tk_embed.specs.declared.fault.Fault.TheVariants as faults
use Rattle.tk_embed.specs.declared.fault.Reason.{Reason}
use Rattle.tk_embed.specs.declared.fault.Reason.TheVariants.{Id, Name, Piece, Attributes, Row, Twice}
use Rattle.tk_embed.specs.Entries.{Given, piece_of, attr_infos, told_of}

-- ---- numbers

-- the number of a reason, from 1 on
abbrev pub reason_code : Reason → ℕ
reason_code Id = 1
reason_code Name = 2
reason_code Piece = 3
reason_code Attributes = 4
reason_code Row = 5
reason_code Twice = 6

-- the answer of a status alone
abbrev pub simple_answer : ℕ → Answer
simple_answer status = record { status = status; reason = 0; place = 0; len = 0 }

-- the answer that an entry is none
abbrev pub entry_answer : ℕ → ℕ → Reason → Answer
entry_answer status place reason = record { status = status; reason = reason_code reason; place = place; len = 0 }

-- the fault of an entry at a place
abbrev pub fault_at : (ℕ → Reason → Fault) → ℕ → Bad → Fault
fault_at make place (bad.Entry reason) = make place reason
fault_at make place bad.Memory = faults.Memory

-- the answer of a fault
abbrev pub answer_of : Fault → Answer
answer_of faults.Memory = simple_answer 2
answer_of faults.NoNumber = simple_answer 3
answer_of faults.FewEntries = simple_answer 4
answer_of (faults.BadTask place reason) = entry_answer 5 place reason
answer_of (faults.BadResource place reason) = entry_answer 6 place reason
answer_of (faults.BadOp place reason) = entry_answer 7 place reason
answer_of (faults.BadCount place reason) = entry_answer 8 place reason
answer_of (faults.BadTimes place reason) = entry_answer 9 place reason

-- ---- the parts of an entry

-- a piece reaches out of the list that it is of
abbrev pub reaches_out : {A : Type 0} → List A → Place → Bool
reaches_out list piece = nat_lt (length list) (piece.start + piece.len)

-- a piece of the text is no name
abbrev pub is_no_name : List ℕ → Place → Bool
is_no_name text piece = not (is_name (piece_of text piece))

-- a parent is none, which is 0, or an id
abbrev pub is_parent : ℕ → Bool
is_parent id = id == 0 || is_id id

-- the pieces of the text that an attribute has
abbrev pub attr_pieces : AttrEntry → List Place
attr_pieces a = if a.has_unit then a.name ∷ a.unit ∷ [] else a.name ∷ []

-- the pieces of the text that the attributes of an item have
abbrev pub attrs_pieces : List AttrEntry → Place → List Place
attrs_pieces attrs place = flat_map attr_pieces (piece_of attrs place)

-- a reason, where it is not memory that was wanted
abbrev pub OfBad : (Reason → Type 0) → Bad → Type 0
OfBad P (bad.Entry reason) = P reason
OfBad P bad.Memory = Unit {0}

-- an id is none
abbrev pub IsNoId : ℕ → Bad → Type 0
IsNoId id why = (why ≡ bad.Entry Id) × (is_id id ≡ false)

-- one of these pieces is no name, or reaches out of the text
abbrev pub HasBadPiece : List ℕ → List Place → Reason → Type 0
HasBadPiece text pieces Name = list_any (is_no_name text) pieces ≡ true
HasBadPiece text pieces Piece = list_any (reaches_out text) pieces ≡ true
HasBadPiece text pieces Id = ⊥
HasBadPiece text pieces Attributes = ⊥
HasBadPiece text pieces Row = ⊥
HasBadPiece text pieces Twice = ⊥

-- the attributes of an item: one of their pieces is bad, their place reaches out of the list, or no item has such attributes
abbrev pub HasBadAttrs : List ℕ → List AttrEntry → Place → Reason → Type 0
HasBadAttrs text attrs place Name = HasBadPiece text (attrs_pieces attrs place) Name
HasBadAttrs text attrs place Piece = HasBadPiece text (attrs_pieces attrs place) Piece ⊎ (reaches_out attrs place ≡ true)
HasBadAttrs text attrs place Attributes = are_attributes (info_names (attr_infos text attrs place)) ≡ false
HasBadAttrs text attrs place Id = ⊥
HasBadAttrs text attrs place Row = ⊥
HasBadAttrs text attrs place Twice = ⊥

-- what an entry says of its item once: an id is none, one of its own pieces is bad, or its attributes are
abbrev pub HasBadInfo : Bool → List ℕ → List Place → (Reason → Type 0) → Reason → Type 0
HasBadInfo ids text pieces attrs Id = ids ≡ false
HasBadInfo ids text pieces attrs Name = HasBadPiece text pieces Name ⊎ attrs Name
HasBadInfo ids text pieces attrs Piece = HasBadPiece text pieces Piece ⊎ attrs Piece
HasBadInfo ids text pieces attrs Attributes = attrs Attributes
HasBadInfo ids text pieces attrs Row = ⊥
HasBadInfo ids text pieces attrs Twice = ⊥

-- no attributes are bad
abbrev pub NoBadAttrs : Reason → Type 0
NoBadAttrs reason = ⊥

-- no row has these words
abbrev pub HasNoRow : {R : Type 0} → (R → List ℕ) → List ℕ → Type 0
HasNoRow {R} words_of words = (row : R) → words_of row ≢ words

-- an id stands before
abbrev pub stands_before : {E : Type 0} → (E → ℕ) → List E → ℕ → Bool
stands_before id_of before id = list_any (λ e. id == id_of e) before

-- the words that are to be a row: those of now, or those that were told
abbrev pub words_at : Bool → List ℕ → List ℕ → List ℕ
words_at now row told = if now then row else told

-- ---- entries after those that stand before them

-- what a task says of itself once is bad
abbrev pub HasBadTaskInfo : List ℕ → TaskEntry → Reason → Type 0
HasBadTaskInfo text e = HasBadInfo (is_id e.id) text (e.name ∷ e.file ∷ []) NoBadAttrs

-- what a resource says of itself once is bad
abbrev pub HasBadResourceInfo : List ℕ → List AttrEntry → ResourceEntry → Reason → Type 0
HasBadResourceInfo text attrs e = HasBadInfo (is_id e.id && is_parent e.parent) text (e.concrete ∷ e.kind ∷ e.file ∷ []) (HasBadAttrs text attrs e.attrs)

-- what an async operation says of itself once is bad
abbrev pub HasBadOpInfo : List ℕ → List AttrEntry → OpEntry → Reason → Type 0
HasBadOpInfo text attrs e = HasBadInfo (is_id e.id && (is_id e.resource && is_parent e.parent)) text (e.source ∷ []) (HasBadAttrs text attrs e.attrs)

-- an entry is none by this reason: no row has its words, its id stands before, or its info is bad
abbrev pub IsBadEntry : {R : Type 0} → (R → List ℕ) → List ℕ → Bool → (Reason → Type 0) → Reason → Type 0
IsBadEntry words_of words twice info Id = info Id
IsBadEntry words_of words twice info Name = info Name
IsBadEntry words_of words twice info Piece = info Piece
IsBadEntry words_of words twice info Attributes = info Attributes
IsBadEntry words_of words twice info Row = HasNoRow words_of words
IsBadEntry words_of words twice info Twice = twice ≡ true

-- a task
abbrev pub IsBadTask : List ℕ → Bool → List TaskEntry → TaskEntry → Reason → Type 0
IsBadTask text now before e =
    IsBadEntry task_words.words_of (words_at now e.row e.told) (stands_before (λ (b : TaskEntry). b.id) before e.id) (HasBadTaskInfo text e)

-- a resource
abbrev pub IsBadResource : List ℕ → List AttrEntry → Bool → List ResourceEntry → ResourceEntry → Reason → Type 0
IsBadResource text attrs now before e =
    IsBadEntry resource_words.words_of (words_at now e.row e.told) (stands_before (λ (b : ResourceEntry). b.id) before e.id) (HasBadResourceInfo text attrs e)

-- an async operation
abbrev pub IsBadOp : List ℕ → List AttrEntry → Bool → List OpEntry → OpEntry → Reason → Type 0
IsBadOp text attrs now before e =
    IsBadEntry op_words.words_of (words_at now e.row e.told) (stands_before (λ (b : OpEntry). b.id) before e.id) (HasBadOpInfo text attrs e)

-- poll counts of a resource: its id is none, or stands before
abbrev pub IsBadCounts : ℕ → Bool → Reason → Type 0
IsBadCounts id twice Id = is_id id ≡ false
IsBadCounts id twice Twice = twice ≡ true
IsBadCounts id twice Name = ⊥
IsBadCounts id twice Piece = ⊥
IsBadCounts id twice Attributes = ⊥
IsBadCounts id twice Row = ⊥

-- the entry of poll counts
abbrev pub IsBadCount : List CountEntry → CountEntry → Reason → Type 0
IsBadCount before e = IsBadCounts e.resource (stands_before (λ (b : CountEntry). b.resource) before e.resource)

-- no row has the words of a histogram, or those of the waits that it says are beside it
abbrev pub HasBadRows : Bool → TimesEntry → Type 0
HasBadRows now e =
    HasNoRow times_words.words_of (words_at now e.row e.told) ⊎ ((e.waited ≡ true) × HasNoRow times_words.words_of (words_at now e.waits e.told_waits))

-- the entry of a histogram is none by this reason: its task's id is none, or stands before, or its words are no row's
abbrev pub IsBadHistogram : Bool → Bool → TimesEntry → Reason → Type 0
IsBadHistogram now twice e Id = is_id e.task ≡ false
IsBadHistogram now twice e Name = ⊥
IsBadHistogram now twice e Piece = ⊥
IsBadHistogram now twice e Attributes = ⊥
IsBadHistogram now twice e Row = HasBadRows now e
IsBadHistogram now twice e Twice = twice ≡ true

-- the same, after the entries that stand before it
abbrev pub IsBadTimes : Bool → List TimesEntry → TimesEntry → Reason → Type 0
IsBadTimes now before e = IsBadHistogram now (stands_before (λ (b : TimesEntry). b.task) before e.task) e

-- ---- lists of entries

-- the entry at a place is none by this reason
abbrev pub IsBadAt : {E : Type 0} → (List E → E → Reason → Type 0) → List E → ℕ → Reason → Type 0
IsBadAt {E} IsBad entries place reason = (e : E) × (slice_get entries place ≡ Some e) × IsBad (take place entries) e reason

-- why there are no tables of these entries, with their rows of now or as they were told
abbrev pub IsFaultOf : Bool → Given → Fault → Type 0
IsFaultOf now given faults.Memory = Unit {0}
IsFaultOf now given faults.NoNumber = ⊥
IsFaultOf now given faults.FewEntries = ⊥
IsFaultOf now given (faults.BadTask place reason) = IsBadAt (IsBadTask given.text now) given.tasks place reason
IsFaultOf now given (faults.BadResource place reason) = IsBadAt (IsBadResource given.text given.attrs now) given.resources place reason
IsFaultOf now given (faults.BadOp place reason) = IsBadAt (IsBadOp given.text given.attrs now) given.ops place reason
IsFaultOf now given (faults.BadCount place reason) = IsBadAt IsBadCount given.counts place reason
IsFaultOf now given (faults.BadTimes place reason) = ⊥

-- more entries were told than there are
abbrev pub tells_too_many : Head → Given → Bool
tells_too_many head given =
    nat_lt (length given.tasks) head.told_tasks || (nat_lt (length given.resources) head.told_resources
    || (nat_lt (length given.ops) head.told_ops || nat_lt (length given.counts) head.told_counts))

-- why there is no line of a head and entries
abbrev pub IsFault : Head → Given → Fault → Type 0
IsFault head given faults.Memory = Unit {0}
IsFault head given faults.NoNumber = is_seq head.seq ≡ false
IsFault head given faults.FewEntries = tells_too_many head given ≡ true
IsFault head given fault = IsFaultOf true given fault ⊎ IsFaultOf false (told_of head given) fault

-- ---- histograms

-- how many histograms a line takes as told: a snapshot tells all
abbrev pub told_count : Head → ℕ → ℕ
told_count head told = if head.snapshot then 0 else told

-- why there are no histograms of these entries, with their rows of now or as they were told
abbrev pub IsTimesFaultOf : Bool → List TimesEntry → Fault → Type 0
IsTimesFaultOf now times faults.Memory = Unit {0}
IsTimesFaultOf now times faults.NoNumber = ⊥
IsTimesFaultOf now times faults.FewEntries = ⊥
IsTimesFaultOf now times (faults.BadTask place reason) = ⊥
IsTimesFaultOf now times (faults.BadResource place reason) = ⊥
IsTimesFaultOf now times (faults.BadOp place reason) = ⊥
IsTimesFaultOf now times (faults.BadCount place reason) = ⊥
IsTimesFaultOf now times (faults.BadTimes place reason) = IsBadAt (IsBadTimes now) times place reason

-- why a line doesn't tell these histograms, of which so many are taken as told: those are more than there are, or one is none, now or as it was told
abbrev pub IsTimesFault : ℕ → List TimesEntry → Fault → Type 0
IsTimesFault told times fault =
    ((fault ≡ faults.FewEntries) × (nat_lt (length times) told ≡ true))
    ⊎ (IsTimesFaultOf true times fault ⊎ IsTimesFaultOf false (take told times) fault)

-- why there is no line of a head, entries and histograms
abbrev pub IsTimedFault : Head → Given → ℕ → List TimesEntry → Fault → Type 0
IsTimedFault head given told times fault = IsFault head given fault ⊎ IsTimesFault (told_count head told) times fault
