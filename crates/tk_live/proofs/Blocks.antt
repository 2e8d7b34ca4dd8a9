-- Blocks: what stands after their lines.
use Rattle.std.proofs.Common.{◌≡◌, ℕ, ◌⊎◌, Bool, true, false, List, [], ◌∷◌, ◌++◌, Option, Some, None, Result, Ok, Err, inl, inr, refl, sym, ap, ◌∙◌, subst, ◌≢◌, true≢false}
use Rattle.std.proofs.KnownBytes.{Appends-nil}
use Rattle.std.specs.Prelude.{codes, option_and_then, option_map, is_some, ◌&&◌, ◌||◌, ◌==◌, if◌then◌else◌, OnOk, IfErr}
use Rattle.std.proofs.lemmas.Bool.{cases_eq, ne_eqb}
use Rattle.std.proofs.lemmas.List.Folds.{list_any-append}
use Rattle.std.specs.Option.{option_map_or}
use Rattle.std.specs.Str.{bytes_eq}
use Rattle.tk_ids.specs.Names.{is_name}
use Rattle.tk_stream.specs.Streams.{Sending}
use Rattle.tk_live.specs.Blocks.{Block, no_lines, is_named, spends, with_line, lines_of_worker, lines_of_other}
use Rattle.tk_live.specs.Named.{live_item}
use Rattle.tk_script.specs.Commands.{Said, Line, says, bad, skipped, joins, works, is_skipped, block_said, block_line, line_of, declares, resource_by, op_by, said_by}
use Rattle.tk_script.specs.Commands as said
use Rattle.tk_script.specs.Attributes.{attrs_by}
use Rattle.tk_script.specs.Words.{moment}
use Rattle.tk_live.specs.Course.{Course, start_of_all, step, step_on, joined, line_after}
use Rattle.tk_live.specs.Runs.{Represents, IsOpen, CommandResult, BlockLineResult, LineResult, block_of}
use Rattle.tk_live.specs.Script.{Fronts}
use Rattle.tk_live.specs.Stops.{StopsBy, command_stop, line_stop, stop_inside, stop_outside, LineStopReason, LineStopByEnvironment, WhereByEnvironment, InsideByEnvironment, OutsideByEnvironment, GateStops, JoinStop, TakesMemory, if_there, work_stop}
use Rattle.tk_live.specs.Threads.{Apart}
use Rattle.tk_script.specs.declared.block.BlockSaid.{BlockSaid}
use Rattle.tk_script.specs.declared.block.BlockSaid.TheVariants as blocks
use Rattle.tk_live.specs.declared.block.OpenBlock.{OpenBlock}
use Rattle.tk_script.specs.declared.block.Worker.{Worker}
use Rattle.tk_script.specs.declared.block.Worker.TheVariants.{One, Two}
use Rattle.tk_script.specs.declared.block.WorkerLine.{WorkerLine}
use Rattle.tk_live.specs.declared.interpreter.Interpreter.{Interpreter}
use Rattle.tk_script.specs.declared.stop.Stop.{Stop}
use Rattle.tk_script.specs.declared.stop.Stop.TheVariants.{BadCommand, Memory, WriteFault}
use Rattle.tk_script.specs.declared.settings.Settings.{Settings}
use Rattle.tk_live.proofs.Lines.{unsent, unmarked, no_front}

or-false : (b : Bool) → (b || false) ≡ b
or-false true = refl
or-false false = refl

named_more : (w : ℕ) (ls : List WorkerLine) (l : WorkerLine) → is_named w (ls ++ l ∷ []) ≡ (is_named w ls || (l.waker == w))
named_more w ls l = list_any-append (λ (k : WorkerLine). k.waker == w) ls (l ∷ []) ∙ ap (λ (b : Bool). is_named w ls || b) (or-false (l.waker == w))

-- a line of another waker names none more
named_before : (w : ℕ) (ls : List WorkerLine) (l : WorkerLine) → w ≢ l.waker → is_named w (ls ++ l ∷ []) ≡ is_named w ls
named_before w ls l isnt = named_more w ls l ∙ (ap (λ (b : Bool). is_named w ls || b) (ne_eqb l.waker w (λ e. isnt (sym e))) ∙ or-false (is_named w ls))

some_none : {X : Type 0} {x : X} → Some x ≡ None → ⊥
some_none e = cc

-- a line that goes on has a waker that no line of the other worker names
goes_alone : (own others : List WorkerLine) (ws : List (Option ℕ)) (l : WorkerLine) → work_stop own others ws l ≡ None → is_named l.waker others ≡ false
goes_alone own others ws l e = go (is_named l.waker others) e
  where
    go : (b : Bool) → (if b then Some BadCommand else if_there (if spends l.waker own then None else live_item l.waker ws) None) ≡ None → b ≡ false
    go true h = absurd (some_none h)
    go false h = refl

-- a block that opens or closes changes nothing else
pub with_block : (i : Interpreter) (settings : Settings) (c : Course) (kept : List Bool) (sent : List Sending) (b : Option Block) → Represents i settings c kept sent → Represents i settings (record c { block = b }) kept sent
with_block i settings c kept sent b stands = record {
  came = stands.came;
  rise = stands.rise;
  offered = stands.offered;
  takes = stands.takes;
  taken = stands.taken;
  gone = stands.gone;
  has_told = stands.has_told;
  timed = stands.timed;
  holds = stands.holds;
  linked = stands.linked;
  polled = stands.polled;
  capacity_said = stands.capacity_said;
  retention_said = stands.retention_said;
  times_said = stands.times_said;
  waits_said = stands.waits_said;
  begun = stands.begun;
  times_is = stands.times_is;
}

pub opened : (i new : Interpreter) (settings : Settings) (c : Course) (kept : List Bool) (sent : List Sending) → Represents i settings c kept sent → new ≡ record i { begun = true }
    → Represents new settings (record c { begun = true; block = Some no_lines }) kept sent
opened i new settings c kept sent stands is = subst (λ (n : Interpreter). Represents n settings (record c { begun = true; block = Some no_lines }) kept sent) (sym is) (record {
  came = stands.came;
  rise = stands.rise;
  offered = stands.offered;
  takes = stands.takes;
  taken = stands.taken;
  gone = stands.gone;
  has_told = stands.has_told;
  timed = stands.timed;
  holds = stands.holds;
  linked = stands.linked;
  polled = stands.polled;
  capacity_said = stands.capacity_said;
  retention_said = stands.retention_said;
  times_said = stands.times_said;
  waits_said = stands.waits_said;
  begun = refl;
  times_is = stands.times_is;
})

-- no command opens or closes a block
pub step_block : (c : Course) (line : ℕ) (s : Said) → (step c line s).block ≡ c.block
step_block c line (said.task at kind name) = refl
step_block c line (said.start n m) = refl
step_block c line (said.finish n m) = refl
step_block c line (said.polls n count m run every) = refl
step_block c line (said.close n m) = refl
step_block c line (said.self_wake n m) = refl
step_block c line (said.clone n) = refl
step_block c line (said.again n) = refl
step_block c line (said.wake_ref n m) = refl
step_block c line (said.wake n m) = refl
step_block c line (said.release n) = refl
step_block c line (said.resource at kind concrete attrs) = refl
step_block c line (said.close_resource n m) = refl
step_block c line (said.change_resource n i change) = refl
step_block c line (said.op at r source attrs) = refl
step_block c line (said.op_task n t) = refl
step_block c line (said.start_op n m) = refl
step_block c line (said.finish_op n m) = refl
step_block c line (said.close_op n m) = refl
step_block c line (said.change_op n i change) = refl
step_block c line (said.poll_op r o t name ready) = refl
step_block c line (said.capacity n) = refl
step_block c line (said.retention n) = refl
step_block c line said.times = refl
step_block c line said.waits = refl
step_block c line (said.publish m whole) = refl

none_some : {X : Type 0} {x : X} → None ≡ Some x → ⊥
none_some e = cc

-- the same block is open
pub open_same : (block : Option OpenBlock) (c d : Course) → IsOpen block c → d.block ≡ c.block → IsOpen block d
open_same block c d was same = record { is = was.is ∙ sym same; apart = λ b e. was.apart b (sym same ∙ e) }

-- none is open before the first line
pub none_open : IsOpen None start_of_all
none_open = record { is = refl; apart = λ b e. absurd (none_some e) }

-- what is open, if anything is
pub open_some : (block : Option OpenBlock) (c : Course) → IsOpen block c → true ≡ is_some block → (b : Block) × (c.block ≡ Some b)
open_some None c was e = absurd cc
open_some (Some b) c was e = (block_of b, sym was.is)

pub open_none : (block : Option OpenBlock) (c : Course) → IsOpen block c → false ≡ is_some block → c.block ≡ None
open_none None c was e = sym was.is
open_none (Some b) c was e = absurd cc

pub open_is : (block : Option OpenBlock) (b : OpenBlock) (c : Course) → IsOpen block c → block ≡ Some b → c.block ≡ Some (block_of b)
open_is block b c was e = sym was.is ∙ ap (option_map block_of) e

pub open_not : (block : Option OpenBlock) (c : Course) → IsOpen block c → block ≡ None → c.block ≡ None
open_not block c was e = sym was.is ∙ ap (option_map block_of) e

-- what the text tells of a line in a block, and outside of blocks
module _ (c : Course) (line : Line) where
  pub inside : (b : Block) → c.block ≡ Some b → line_stop c line ≡ stop_inside c b line
  inside b e = ap (λ o. option_map_or (λ k. stop_inside c k line) o (stop_outside c line)) e

  pub outside : c.block ≡ None → line_stop c line ≡ stop_outside c line
  outside e = ap (λ o. option_map_or (λ k. stop_inside c k line) o (stop_outside c line)) e

  pub fails_inside : (answers : ℕ → Bool → Type 0) (stop : Stop) (b : Block) → c.block ≡ Some b → InsideByEnvironment answers b line stop → LineStopByEnvironment answers c line stop
  fails_inside answers stop b e h = subst (λ (o : Option Block). WhereByEnvironment answers c o line stop) (sym e) h

  pub fails_outside : (answers : ℕ → Bool → Type 0) (stop : Stop) → c.block ≡ None → OutsideByEnvironment c line stop → LineStopByEnvironment answers c line stop
  fails_outside answers stop e h = subst (λ (o : Option Block). WhereByEnvironment answers c o line stop) (sym e) h

bad_is_no_write : BadCommand ≡ WriteFault → ⊥
bad_is_no_write e = cc

memory_is_no_write : Memory ≡ WriteFault → ⊥
memory_is_no_write e = cc

some_same : {X : Type 0} (a b : X) → Some a ≡ Some b → a ≡ b
some_same a b e = cc

-- one line more, of a waker that the other worker's lines don't name
still_apart : (k : Worker) (l : WorkerLine) (b : Block) → Apart b.first b.second → is_named l.waker (lines_of_other k b) ≡ false → Apart (with_line k l b).first (with_line k l b).second
still_apart One l b apart un n named = by_number (cases_eq n l.waker)
  where
    by_number : (n ≡ l.waker) ⊎ (n ≢ l.waker) → is_named n b.second ≡ false
    by_number (inl is) = ap (λ (m : ℕ). is_named m b.second) is ∙ un
    by_number (inr isnt) = apart n (sym (named_before n b.first l isnt) ∙ named)
still_apart Two l b apart un n named = by_number (cases_eq n l.waker)
  where
    by_number : (n ≡ l.waker) ⊎ (n ≢ l.waker) → is_named n (b.second ++ l ∷ []) ≡ false
    by_number (inl is) = absurd (true≢false (sym named ∙ (ap (λ (m : ℕ). is_named m b.first) is ∙ un)))
    by_number (inr isnt) = named_before n b.second l isnt ∙ apart n named

-- a line that says a command, where no block is open
pub said_came : (answers : ℕ → Bool → Type 0) (n : ℕ) (settings : Settings) (c : Course) (kept : List Bool) (sent : List Sending) (s : Said) (new : Interpreter) (block : Option OpenBlock) (result : Result (Unit {0}) Stop) (before after : Option (List ℕ))
    → c.block ≡ None → IsOpen block c → CommandResult command_stop step_on settings c kept sent n s new result before after → LineResult answers settings c kept sent n (says s) new block result before after
said_came answers n settings c kept sent s new block (Ok done) before after none was h =
    (outside c (says s) none ∙ h.0, h.1, h.2, h.3, open_same block c (step_on c n s) was (step_block c n s), h.4)
said_came answers n settings c kept sent s new block (Err stop) before after none was h = (by_cause h.0, h.1, h.2, h.3)
  where
    by_cause : StopsBy (command_stop c s) c s stop → LineStopReason answers c (says s) stop
    by_cause (inl e) = inl (outside c (says s) none ∙ e)
    by_cause (inr m) = inr (fails_outside c (says s) answers stop none m)

-- nothing goes out of a line that only blocks have
quiet : (sent : List Sending) (said : BlockSaid) (stop : Stop) → Fronts sent (block_line said) stop []
quiet sent blocks.Opens stop = refl
quiet sent blocks.Joins stop = refl
quiet sent (blocks.Works k l) stop = refl

pub block_came : (answers : ℕ → Bool → Type 0) (n : ℕ) (settings : Settings) (c : Course) (kept : List Bool) (sent : List Sending) (said : BlockSaid) (new : Interpreter) (block : Option OpenBlock) (result : Result (Unit {0}) Stop) (bytes : Option (List ℕ))
    → BlockLineResult answers settings c kept sent n (block_line said) new block result → LineResult answers settings c kept sent n (block_line said) new block result bytes bytes
block_came answers n settings c kept sent said new block (Ok done) bytes h =
    let k = line_after c (n, block_line said) in
    (h.0, [], [], unsent new settings k (kept ++ []) sent (unmarked new settings k kept sent h.1), h.2, Appends-nil bytes)
block_came answers n settings c kept sent said new block (Err stop) bytes h =
    (h, [], quiet sent said stop, Appends-nil bytes)

-- a line that is skipped
pub skipped_came : (answers : ℕ → Bool → Type 0) (n : ℕ) (settings : Settings) (c : Course) (kept : List Bool) (sent : List Sending) (i : Interpreter) (block : Option OpenBlock) (bytes : Option (List ℕ)) → Represents i settings c kept sent → IsOpen block c
    → LineResult answers settings c kept sent n skipped i block (Ok tt) bytes bytes
skipped_came answers n settings c kept sent i block bytes stands was = (goes c.block, [], [], unsent i settings c (kept ++ []) sent (unmarked i settings c kept sent stands), was, Appends-nil bytes)
  where
    goes : (o : Option Block) → option_map_or (λ b. stop_inside c b skipped) o (stop_outside c skipped) ≡ None
    goes None = refl
    goes (Some b) = refl

-- a line that says a command or none, where a block is open
pub refused : (answers : ℕ → Bool → Type 0) (n : ℕ) (settings : Settings) (c : Course) (kept : List Bool) (sent : List Sending) (i : Interpreter) (block : Option OpenBlock) (bytes : Option (List ℕ)) (b : Block) (o : Option Said)
    → c.block ≡ Some b → Represents i settings c kept sent → LineResult answers settings c kept sent n (option_map_or says o bad) i block (Err BadCommand) bytes bytes
refused answers n settings c kept sent i block bytes b None e stands = (inl (inside c bad b e), [], refl, Appends-nil bytes)
refused answers n settings c kept sent i block bytes b (Some s) e stands = (inl (inside c (says s) b e), [], no_front sent s BadCommand (λ w. bad_is_no_write w), Appends-nil bytes)

-- what a declaring line says takes memory
module _ where
  from_map : {A : Type 0} (f : A → Said) → ((a : A) → TakesMemory (f a)) → (o : Option A) (s : Said) → option_map f o ≡ Some s → TakesMemory s
  from_map f each None s e = absurd cc
  from_map f each (Some a) s e = subst TakesMemory (some_same (f a) s e) (each a)

  from_then : {A : Type 0} (f : A → Option Said) → ((a : A) (s : Said) → f a ≡ Some s → TakesMemory s) → (o : Option A) (s : Said) → option_and_then f o ≡ Some s → TakesMemory s
  from_then f each None s e = absurd cc
  from_then f each (Some a) s e = each a s e

  from_if : (b : Bool) (o : Option Said) → ((s : Said) → o ≡ Some s → TakesMemory s) → (s : Said) → (if b then o else None) ≡ Some s → TakesMemory s
  from_if true o each s e = each s e
  from_if false o each s e = absurd cc

  resource_takes : (words : List (List ℕ)) (s : Said) → resource_by words ≡ Some s → TakesMemory s
  resource_takes [] s e = absurd cc
  resource_takes (m ∷ []) s e = absurd cc
  resource_takes (m ∷ k ∷ []) s e = absurd cc
  resource_takes (m ∷ k ∷ t ∷ words) s e =
      from_then _ (λ at. from_if (is_name k && is_name t) _ (from_map (said.resource at k t) (λ a. tt) (attrs_by words))) (moment m) s e

  op_takes : (words : List (List ℕ)) (s : Said) → op_by words ≡ Some s → TakesMemory s
  op_takes [] s e = absurd cc
  op_takes (m ∷ []) s e = absurd cc
  op_takes (m ∷ r ∷ []) s e = absurd cc
  op_takes (m ∷ r ∷ source ∷ words) s e =
      from_then _ (λ at. from_then _ (λ n. from_if (is_name source) _ (from_map (said.op at n source) (λ a. tt) (attrs_by words))) (moment r)) (moment m) s e

  pub declared_takes : (words : List (List ℕ)) (s : Said) → declares words ≡ true → said_by words ≡ Some s → TakesMemory s
  declared_takes [] s d e = absurd cc
  declared_takes (w ∷ words) s d e = go (bytes_eq w (codes "resource")) (bytes_eq w (codes "op")) _ d e
    where
      go : (a b : Bool) (rest : Option Said) → (if a then true else b) ≡ true → (if a then resource_by words else (if b then op_by words else rest)) ≡ Some s → TakesMemory s
      go true b rest d e = resource_takes words s e
      go false true rest d e = op_takes words s e
      go false false rest d e = absurd cc

-- a line that memory is lacking for, before it is known what it says
pub lacked : (answers : ℕ → Bool → Type 0) (n : ℕ) (settings : Settings) (c : Course) (kept : List Bool) (sent : List Sending) (i : Interpreter) (block : Option OpenBlock) (bytes : Option (List ℕ)) (o : Option Said) → ((s : Said) → o ≡ Some s → TakesMemory s)
    → c.block ≡ None → Represents i settings c kept sent → LineResult answers settings c kept sent n (option_map_or says o bad) i block (Err Memory) bytes bytes
lacked answers n settings c kept sent i block bytes None takes e stands = (inr (fails_outside c bad answers Memory e tt), [], refl, Appends-nil bytes)
lacked answers n settings c kept sent i block bytes (Some s) takes e stands = (inr (fails_outside c (says s) answers Memory e (takes s refl)), [], no_front sent s Memory (λ w. memory_is_no_write w), Appends-nil bytes)

-- a line that says no command
pub bad_came : (answers : ℕ → Bool → Type 0) (n : ℕ) (settings : Settings) (c : Course) (kept : List Bool) (sent : List Sending) (i : Interpreter) (block : Option OpenBlock) (bytes : Option (List ℕ)) → c.block ≡ None → Represents i settings c kept sent
    → LineResult answers settings c kept sent n bad i block (Err BadCommand) bytes bytes
bad_came answers n settings c kept sent i block bytes e stands = (inl (outside c bad e), [], refl, Appends-nil bytes)

-- what a line is that isn't skipped
pub line_is_block : (text : List ℕ) (l : Line) → is_skipped text ≡ false → block_said text ≡ Some l → line_of text ≡ l
line_is_block text l counts told = rw (counts, told) refl

pub line_is_said : (text : List ℕ) → is_skipped text ≡ false → block_said text ≡ None → line_of text ≡ option_map_or says (said.said text) bad
line_is_said text counts none = rw (counts, none) refl

-- a block that opens
pub open_new : (b : OpenBlock) (c : Course) → block_of b ≡ no_lines → IsOpen (Some b) (record c { begun = true; block = Some no_lines })
open_new b c new = record { is = ap (λ k. Some k) new; apart = λ k e n named. refl_apart k e n named }
  where
    refl_apart : (k : Block) → Some no_lines ≡ Some k → Apart k.first k.second
    refl_apart k e = let same : no_lines ≡ k = some_same no_lines k e in subst (λ (b : Block). Apart b.first b.second) same (λ n named. refl)

-- its threads are joined, or they aren't
pub join_came : (answers : ℕ → Bool → Type 0) (n : ℕ) (settings : Settings) (c : Course) (kept : List Bool) (sent : List Sending) (i new : Interpreter) (b : Block) (result : Result (Unit {0}) Stop) → c.block ≡ Some b → Apart b.first b.second → Represents i settings c kept sent
    → OnOk result ((settings : Settings) (c : Course) (kept : List Bool) (sent : List Sending) → Apart b.first b.second → Represents i settings c kept sent → Represents new settings (joined c b) kept sent)
    → IfErr result (JoinStop (GateStops answers b)) → BlockLineResult answers settings c kept sent n joins new None result
join_came answers n settings c kept sent i new b (Ok done) is apart stands ran ends =
    let closed : line_after c (n, joins) ≡ joined c b = ap (λ o. option_map_or (joined c) o c) is in (
      inside c joins b is,
      subst (λ (k : Course). Represents new settings k kept sent) (sym closed) (ran settings c kept sent apart stands),
      subst (λ (k : Course). IsOpen None k) (sym closed) (record { is = refl; apart = λ k e. absurd (none_some e) }),
    )
join_came answers n settings c kept sent i new b (Err stop) is apart stands ran ends = inr (fails_inside c joins answers stop b is ends)

-- a worker's line goes on, or it doesn't
pub work_came : (answers : ℕ → Bool → Type 0) (n : ℕ) (settings : Settings) (c : Course) (kept : List Bool) (sent : List Sending) (i : Interpreter) (old new : OpenBlock) (k : Worker) (l : WorkerLine) (ws : List (Option ℕ)) (result : Result (Unit {0}) Stop)
    → c.block ≡ Some (block_of old) → Apart old.first old.second → Represents i settings c kept sent → ws ≡ c.pasts.wakers
    → OnOk result (work_stop (lines_of_worker k (block_of old)) (lines_of_other k (block_of old)) ws l ≡ None)
    → OnOk result (block_of new ≡ with_line k l (block_of old))
    → IfErr result (λ stop. (work_stop (lines_of_worker k (block_of old)) (lines_of_other k (block_of old)) ws l ≡ Some stop) ⊎ (stop ≡ Memory)) → BlockLineResult answers settings c kept sent n (works k l) i (Some new) result
work_came answers n settings c kept sent i old new k l ws (Ok done) is apart stands are goes more fails =
    let b = block_of old in
    let line : work_stop (lines_of_worker k b) (lines_of_other k b) c.pasts.wakers l ≡ None = ap (λ vs. work_stop (lines_of_worker k b) (lines_of_other k b) vs l) (sym are) ∙ goes in
    let after : option_map (with_line k l) c.block ≡ Some (with_line k l b) = ap (option_map (with_line k l)) is in (
      inside c (works k l) b is ∙ line,
      with_block i settings c kept sent (option_map (with_line k l) c.block) stands,
      record {
        is = ap (λ m. Some m) more ∙ sym after;
        apart = λ m e. subst (λ (m : Block). Apart m.first m.second) (some_same (with_line k l b) m (sym after ∙ e)) (still_apart k l b apart (goes_alone (lines_of_worker k b) (lines_of_other k b) ws l goes));
      },
    )
work_came answers n settings c kept sent i old new k l ws (Err stop) is apart stands are goes more fails = by_cause fails
  where
    by_cause : (work_stop (lines_of_worker k (block_of old)) (lines_of_other k (block_of old)) ws l ≡ Some stop) ⊎ (stop ≡ Memory) → LineStopReason answers c (works k l) stop
    by_cause (inl e) = let b = block_of old in inl (inside c (works k l) b is ∙ (ap (λ vs. work_stop (lines_of_worker k b) (lines_of_other k b) vs l) (sym are) ∙ e))
    by_cause (inr e) = inr (fails_inside c (works k l) answers stop (block_of old) is (subst (λ (s : Stop). InsideByEnvironment answers (block_of old) (works k l) s) (sym e) tt))
