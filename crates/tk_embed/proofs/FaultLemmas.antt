-- From what is wrong with a part of an entry to what is wrong with the entry.
use Rattle.std.proofs.lemmas.Option.{same_Some, slice_get-get_or}
use Rattle.tk_stream.proofs.LinesLemmas.{map-same}
use Rattle.std.proofs.Common.{◌≡◌, ℕ, zero, suc, subst, ◌<◌, List, [], ◌∷◌, ◌++◌, Bool, true, false, cond, Some, None, length, take, slice_get, get_or, nat_eq, refl, ap, sym, ◌∙◌, inl, inr}
use Rattle.std.specs.Prelude.{Result, Ok, Err, IfErr, map, is_some, ◌||◌, ◌&&◌, not, nat_lt}
use Rattle.std.specs.List.{list_any, flat_map}
use Rattle.tk_ids.specs.Ids.{is_id}
use Rattle.tk_core.specs.OpWords as op_words
use Rattle.tk_core.specs.ResourceWords as resource_words
use Rattle.tk_core.specs.TaskWords as task_words
use Rattle.tk_stream.specs.declared.tables.op.Op.{Op}
use Rattle.tk_stream.specs.declared.tables.resource.Resource.{Resource}
use Rattle.tk_stream.specs.declared.tables.task.Task.{Task}
use Rattle.tk_stream.specs.Times.{TaskTimes, times_id}
use Rattle.tk_stream.specs.Tables.{PollCounts, item_with, task_id, resource_id, op_id, counts_id}
use Rattle.tk_embed.specs.declared.entries.AttrEntry.{AttrEntry}
use Rattle.tk_embed.specs.declared.entries.CountEntry.{CountEntry}
use Rattle.tk_embed.specs.declared.entries.Head.{Head}
use Rattle.tk_embed.specs.declared.entries.OpEntry.{OpEntry}
use Rattle.tk_embed.specs.declared.entries.Piece.{Piece as Place}
use Rattle.tk_embed.specs.declared.entries.ResourceEntry.{ResourceEntry}
use Rattle.tk_embed.specs.declared.entries.TaskEntry.{TaskEntry}
use Rattle.tk_embed.specs.declared.entries.TimesEntry.{TimesEntry}
use Rattle.tk_embed.specs.declared.fault.Bad.{Bad}
use Rattle.tk_embed.specs.declared.fault.Bad.TheVariants as bads
use Rattle.tk_embed.specs.declared.fault.Fault.{Fault}
use Rattle.tk_embed.specs.declared.fault.Fault.TheVariants as faults
use Rattle.tk_embed.specs.declared.fault.Reason.{Reason}
use Rattle.tk_embed.specs.declared.fault.Reason.TheVariants.{Id, Name, Piece, Attributes, Row, Twice}
use Rattle.tk_embed.specs.Entries.{Given, told_of, task_shown, resource_shown, op_shown, task_entry_shown, resource_entry_shown, op_entry_shown, count_entry_shown, times_entry_shown}
use Rattle.tk_embed.specs.Faults.{OfBad, IsNoId, HasBadPiece, HasBadAttrs, HasBadInfo, NoBadAttrs, HasNoRow, stands_before, words_at, IsBadEntry, HasBadTaskInfo, HasBadResourceInfo, HasBadOpInfo, IsBadTask, IsBadResource, IsBadOp, IsBadCounts, IsBadCount, IsBadAt, IsFaultOf, IsFault, IsBadHistogram, IsBadTimes, IsTimesFaultOf, IsTimesFault, IsTimedFault, told_count, tells_too_many, fault_at, reaches_out, is_no_name, is_parent, attr_pieces, attrs_pieces}

-- ---- tests of lists

or_true : (b : Bool) → (b || true) ≡ true
or_true true = refl
or_true false = refl

-- what holds of one of some holds of one of more
more_front : {A : Type 0} (p : A → Bool) (xs ys : List A) → list_any p xs ≡ true → list_any p (xs ++ ys) ≡ true
more_front p [] ys h = absurd (cc)
more_front p (x ∷ xs) ys h = by (p x) h (more_front p xs ys)
  where
    by : (b : Bool) → (b || list_any p xs) ≡ true → (list_any p xs ≡ true → list_any p (xs ++ ys) ≡ true) → (b || list_any p (xs ++ ys)) ≡ true
    by true e rest = refl
    by false e rest = rest e

more_after : {A : Type 0} (p : A → Bool) (xs ys : List A) → list_any p ys ≡ true → list_any p (xs ++ ys) ≡ true
more_after p [] ys h = h
more_after p (x ∷ xs) ys h = ap (λ b. p x || b) (more_after p xs ys h) ∙ or_true (p x)

-- ---- reasons

-- a reason that is known of one thing is known of another
pub of_bad : (P Q : Reason → Type 0) → ((r : Reason) → P r → Q r) → (b : Bad) → OfBad P b → OfBad Q b
of_bad P Q step (bads.Entry r) h = step r h
of_bad P Q step bads.Memory h = h

-- what holds of something that one of these has
any_of_one : {A B : Type 0} (p : B → Bool) (f : A → List B) (xs : List A) (i : ℕ) (x : A) → slice_get xs i ≡ Some x → list_any p (f x) ≡ true → list_any p (flat_map f xs) ≡ true
any_of_one p f [] i x at h = absurd (cc)
any_of_one p f (y ∷ ys) zero x at h = more_front p (f y) (flat_map f ys) (ap (λ z. list_any p (f z)) (same_Some y x at) ∙ h)
any_of_one p f (y ∷ ys) (suc i) x at h = more_after p (f y) (flat_map f ys) (any_of_one p f ys i x at h)

-- the pieces of one of these attributes
of_one : (text : List ℕ) (entries : List AttrEntry) (i : ℕ) (a : AttrEntry) → slice_get entries i ≡ Some a → (r : Reason) → HasBadPiece text (attr_pieces a) r → HasBadPiece text (flat_map attr_pieces entries) r
of_one text entries i a at Name h = any_of_one (is_no_name text) attr_pieces entries i a at h
of_one text entries i a at Piece h = any_of_one (reaches_out text) attr_pieces entries i a at h
of_one text entries i a at Id h = h
of_one text entries i a at Attributes h = h
of_one text entries i a at Row h = h
of_one text entries i a at Twice h = h

pub attr_at : (text : List ℕ) (entries : List AttrEntry) (i : ℕ) (a : AttrEntry) (b : Bad) → i < length entries → OfBad (HasBadPiece text (attr_pieces (get_or entries i a))) b → OfBad (HasBadPiece text (flat_map attr_pieces entries)) b
attr_at text entries i a b within h = of_bad _ _ (of_one text entries i (get_or entries i a) (slice_get-get_or entries i a within)) b h

-- ---- entries after others

module _ {Item Entry Shown : Type 0} (shown : Item → Shown) (shows : Entry → Shown) (id_in : Shown → ℕ) where
  -- an id is there where an entry before has it
  pub twice : (id : ℕ) (xs : List Item) (es : List Entry) → map shown xs ≡ map shows es → is_some (item_with (λ x. id_in (shown x)) id xs) ≡ stands_before (λ e. id_in (shows e)) es id
  twice id [] [] same = refl
  twice id [] (e ∷ es) same = absurd (cc)
  twice id (x ∷ xs) [] same = absurd (cc)
  twice id (x ∷ xs) (e ∷ es) same =
      let here : shown x ≡ shows e = cc in
      let rest : map shown xs ≡ map shows es = cc in
      by (nat_eq id (id_in (shown x))) (twice id xs es rest) ∙ ap (λ n. nat_eq id (id_in n) || stands_before (λ y. id_in (shows y)) es id) here
    where
      by : (b : Bool) → is_some (item_with (λ y. id_in (shown y)) id xs) ≡ stands_before (λ y. id_in (shows y)) es id
          → is_some (cond b (Some x) (item_with (λ y. id_in (shown y)) id xs)) ≡ (b || stands_before (λ y. id_in (shows y)) es id)
      by true rest = refl
      by false rest = rest

-- the same of an entry, whether its id stands before or not
same_after : {R : Type 0} (words_of : R → List ℕ) (words : List ℕ) (s t : Bool) (info : Reason → Type 0) → s ≡ t → (r : Reason) → IsBadEntry words_of words s info r → IsBadEntry words_of words t info r
same_after words_of words s t info same r h = subst (λ (b : Bool). IsBadEntry words_of words b info r) same h

pub task_at : (text : List ℕ) (now : Bool) (entries : List TaskEntry) (i : ℕ) (d : TaskEntry) (tasks : List Task) (b : Bad)
    → i < length entries → map task_shown tasks ≡ map (task_entry_shown text now) (take i entries)
    → OfBad (IsBadEntry task_words.words_of (words_at now (get_or entries i d).row (get_or entries i d).told) (is_some (item_with task_id (get_or entries i d).id tasks)) (HasBadTaskInfo text (get_or entries i d))) b
    → OfBad (IsBadAt (IsBadTask text now) entries i) b
task_at text now entries i d tasks b within same h =
    let e : TaskEntry = get_or entries i d in
    of_bad _ _ (λ r g. (e, slice_get-get_or entries i d within, same_after task_words.words_of (words_at now e.row e.told) _ _ (HasBadTaskInfo text e) (twice task_shown (task_entry_shown text now) (λ s. s.0.id) e.id tasks (take i entries) same) r g)) b h

pub resource_at : (text : List ℕ) (attrs : List AttrEntry) (now : Bool) (entries : List ResourceEntry) (i : ℕ) (d : ResourceEntry) (resources : List Resource) (b : Bad)
    → i < length entries → map resource_shown resources ≡ map (resource_entry_shown text attrs now) (take i entries)
    → OfBad (IsBadEntry resource_words.words_of (words_at now (get_or entries i d).row (get_or entries i d).told) (is_some (item_with resource_id (get_or entries i d).id resources)) (HasBadResourceInfo text attrs (get_or entries i d))) b
    → OfBad (IsBadAt (IsBadResource text attrs now) entries i) b
resource_at text attrs now entries i d resources b within same h =
    let e : ResourceEntry = get_or entries i d in
    of_bad _ _ (λ r g. (e, slice_get-get_or entries i d within, same_after resource_words.words_of (words_at now e.row e.told) _ _ (HasBadResourceInfo text attrs e) (twice resource_shown (resource_entry_shown text attrs now) (λ s. s.0.id) e.id resources (take i entries) same) r g)) b h

pub op_at : (text : List ℕ) (attrs : List AttrEntry) (now : Bool) (entries : List OpEntry) (i : ℕ) (d : OpEntry) (ops : List Op) (b : Bad)
    → i < length entries → map op_shown ops ≡ map (op_entry_shown text attrs now) (take i entries)
    → OfBad (IsBadEntry op_words.words_of (words_at now (get_or entries i d).row (get_or entries i d).told) (is_some (item_with op_id (get_or entries i d).id ops)) (HasBadOpInfo text attrs (get_or entries i d))) b
    → OfBad (IsBadAt (IsBadOp text attrs now) entries i) b
op_at text attrs now entries i d ops b within same h =
    let e : OpEntry = get_or entries i d in
    of_bad _ _ (λ r g. (e, slice_get-get_or entries i d within, same_after op_words.words_of (words_at now e.row e.told) _ _ (HasBadOpInfo text attrs e) (twice op_shown (op_entry_shown text attrs now) (λ s. s.0.id) e.id ops (take i entries) same) r g)) b h

-- poll counts are of their resource, now and as they were told
counts_before : (now : Bool) (es : List CountEntry) (id : ℕ) → stands_before (λ e. (count_entry_shown now e).0) es id ≡ stands_before (λ (e : CountEntry). e.resource) es id
counts_before true es id = refl
counts_before false es id = refl

counted : (id : ℕ) (s t : Bool) → s ≡ t → (r : Reason) → IsBadCounts id s r → IsBadCounts id t r
counted id s t same r h = subst (λ (b : Bool). IsBadCounts id b r) same h

pub count_at : (now : Bool) (entries : List CountEntry) (i : ℕ) (d : CountEntry) (counts : List PollCounts) (b : Bad)
    → i < length entries → counts ≡ map (count_entry_shown now) (take i entries)
    → OfBad (IsBadCounts (get_or entries i d).resource (is_some (item_with counts_id (get_or entries i d).resource counts))) b → OfBad (IsBadAt IsBadCount entries i) b
count_at now entries i d counts b within same h =
    let e : CountEntry = get_or entries i d in
    of_bad _ _ (λ r g. (e, slice_get-get_or entries i d within, counted e.resource _ _ (twice (λ (c : PollCounts). c) (count_entry_shown now) (λ c. c.0) e.resource counts (take i entries) (map-same counts ∙ same) ∙ counts_before now (take i entries) e.resource) r g)) b h

same_histogram : (now : Bool) (e : TimesEntry) (s t : Bool) → s ≡ t → (r : Reason) → IsBadHistogram now s e r → IsBadHistogram now t e r
same_histogram now e s t same r h = subst (λ (b : Bool). IsBadHistogram now b e r) same h

pub times_at : (now : Bool) (entries : List TimesEntry) (i : ℕ) (d : TimesEntry) (table : List TaskTimes) (b : Bad)
    → i < length entries → table ≡ map (times_entry_shown now) (take i entries)
    → OfBad (IsBadHistogram now (is_some (item_with times_id (get_or entries i d).task table)) (get_or entries i d)) b
    → OfBad (IsBadAt (IsBadTimes now) entries i) b
times_at now entries i d table b within same h =
    let e : TimesEntry = get_or entries i d in
    of_bad _ _ (λ r g. (e, slice_get-get_or entries i d within, same_histogram now e _ _ (twice (λ (t : TaskTimes). t) (times_entry_shown now) (λ t. t.0) e.task table (take i entries) (map-same table ∙ same)) r g)) b h

-- ---- faults

pub task_fault : (now : Bool) (given : Given) (place : ℕ) (b : Bad) → OfBad (IsBadAt (IsBadTask given.text now) given.tasks place) b → IsFaultOf now given (fault_at faults.BadTask place b)
task_fault now given place (bads.Entry r) h = h
task_fault now given place bads.Memory h = tt

pub resource_fault : (now : Bool) (given : Given) (place : ℕ) (b : Bad) → OfBad (IsBadAt (IsBadResource given.text given.attrs now) given.resources place) b → IsFaultOf now given (fault_at faults.BadResource place b)
resource_fault now given place (bads.Entry r) h = h
resource_fault now given place bads.Memory h = tt

pub op_fault : (now : Bool) (given : Given) (place : ℕ) (b : Bad) → OfBad (IsBadAt (IsBadOp given.text given.attrs now) given.ops place) b → IsFaultOf now given (fault_at faults.BadOp place b)
op_fault now given place (bads.Entry r) h = h
op_fault now given place bads.Memory h = tt

pub count_fault : (now : Bool) (given : Given) (place : ℕ) (b : Bad) → OfBad (IsBadAt IsBadCount given.counts place) b → IsFaultOf now given (fault_at faults.BadCount place b)
count_fault now given place (bads.Entry r) h = h
count_fault now given place bads.Memory h = tt

-- of the entries as they are
pub fault_now : (head : Head) (given : Given) (fault : Fault) → IsFaultOf true given fault → IsFault head given fault
fault_now head given faults.Memory h = tt
fault_now head given faults.NoNumber h = absurd h
fault_now head given faults.FewEntries h = absurd h
fault_now head given (faults.BadTask place r) h = inl h
fault_now head given (faults.BadResource place r) h = inl h
fault_now head given (faults.BadOp place r) h = inl h
fault_now head given (faults.BadCount place r) h = inl h
fault_now head given (faults.BadTimes place r) h = absurd h

-- and as they were told
pub fault_told : (head : Head) (given : Given) (fault : Fault) → IsFaultOf false (told_of head given) fault → IsFault head given fault
fault_told head given faults.Memory h = tt
fault_told head given faults.NoNumber h = absurd h
fault_told head given faults.FewEntries h = absurd h
fault_told head given (faults.BadTask place r) h = inr h
fault_told head given (faults.BadResource place r) h = inr h
fault_told head given (faults.BadOp place r) h = inr h
fault_told head given (faults.BadCount place r) h = inr h
fault_told head given (faults.BadTimes place r) h = absurd h

-- more tasks were told than there are, or more of another kind
pub few_tasks : (head : Head) (given : Given) → nat_lt (length given.tasks) head.told_tasks ≡ true → tells_too_many head given ≡ true
few_tasks head given h = rw h refl

pub few_resources : (head : Head) (given : Given) → nat_lt (length given.resources) head.told_resources ≡ true → tells_too_many head given ≡ true
few_resources head given h = rw h (or_true _)

pub few_ops : (head : Head) (given : Given) → nat_lt (length given.ops) head.told_ops ≡ true → tells_too_many head given ≡ true
few_ops head given h = rw h (ap (λ b. nat_lt (length given.tasks) head.told_tasks || b) (or_true (nat_lt (length given.resources) head.told_resources)) ∙ or_true _)

pub few_counts : (head : Head) (given : Given) → nat_lt (length given.counts) head.told_counts ≡ true → tells_too_many head given ≡ true
few_counts head given h =
    rw h (ap (λ b. nat_lt (length given.tasks) head.told_tasks || (nat_lt (length given.resources) head.told_resources || b)) (or_true (nat_lt (length given.ops) head.told_ops))
    ∙ ap (λ b. nat_lt (length given.tasks) head.told_tasks || b) (or_true (nat_lt (length given.resources) head.told_resources)) ∙ or_true _)

-- where memory alone is wanted
pub memory_alone : {T : Type 0} (head : Head) (given : Given) (r : Result T Fault) → IfErr r (λ fault. fault ≡ faults.Memory) → IfErr r (IsFault head given)
memory_alone head given (Ok text) h = tt
memory_alone head given (Err fault) h = subst (IsFault head given) (sym h) tt

-- of the first entries of each list, where they are those that were told
pub fault_of_told : (head : Head) (given : Given) (fault : Fault) (tasks : List TaskEntry) (resources : List ResourceEntry) (ops : List OpEntry) (counts : List CountEntry)
    → tasks ≡ take head.told_tasks given.tasks → resources ≡ take head.told_resources given.resources → ops ≡ take head.told_ops given.ops → counts ≡ take head.told_counts given.counts
    → IsFaultOf false (record { tasks = tasks; resources = resources; ops = ops; counts = counts; attrs = given.attrs; text = given.text }) fault → IsFault head given fault
fault_of_told head given fault tasks resources ops counts a b c d h =
    fault_told head given fault
    (subst (λ (g : Given). IsFaultOf false g fault) (λ i. record { tasks = a i; resources = b i; ops = c i; counts = d i; attrs = given.attrs; text = given.text }) h)

-- ---- histograms

pub times_fault : (now : Bool) (times : List TimesEntry) (place : ℕ) (b : Bad) → OfBad (IsBadAt (IsBadTimes now) times place) b → IsTimesFaultOf now times (fault_at faults.BadTimes place b)
times_fault now times place (bads.Entry r) h = h
times_fault now times place bads.Memory h = tt

pub times_fault_told : (told : ℕ) (times front : List TimesEntry) (fault : Fault) → front ≡ take told times → IsTimesFaultOf false front fault → IsTimesFault told times fault
times_fault_told told times front fault is h = inr (inr (subst (λ (es : List TimesEntry). IsTimesFaultOf false es fault) is h))

pub times_memory : (told : ℕ) (times : List TimesEntry) → IsTimesFault told times faults.Memory
times_memory told times = inr (inl tt)

pub timed_memory : {T : Type 0} (head : Head) (given : Given) (told : ℕ) (times : List TimesEntry) (r : Result T Fault) → IfErr r (λ fault. fault ≡ faults.Memory) → IfErr r (IsTimedFault head given told times)
timed_memory head given told times (Ok text) h = tt
timed_memory head given told times (Err fault) h = subst (IsTimedFault head given told times) (sym h) (inl tt)
