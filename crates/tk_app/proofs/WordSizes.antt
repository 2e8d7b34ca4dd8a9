-- What an item takes in a line, by the words of the command that makes it: at most 236 bytes for each byte of the script.
use Rattle.std.proofs.Common.{◌≡◌, ℕ, ◌+◌, ◌*◌, ◌≤◌, List, [], ◌∷◌, ◌++◌, length, take, drop, Bool, true, false, cond, Option, Some, None, option_map, option_and_then, codes, refl, ap, arith}
use Rattle.std.specs.Prelude.{◌==◌, ◌&&◌, nat_le, fold, position, sum_by, IfSome}
use Rattle.std.specs.Option.{option_map_or}
use Rattle.std.specs.Str.{bytes_eq}
use Rattle.std.proofs.lemmas.List.{length-take}
use Rattle.std.proofs.lemmas.List.Sums.{sum_by-cons}
use Rattle.std.proofs.lemmas.Slice.Eq.{bytes_eq-Decides}
use Rattle.tk_ids.specs.Attributes.{are_attributes, spec_names}
use Rattle.tk_ids.specs.Names.{is_name}
use Rattle.tk_ids.specs.declared.attr.AttrSpec.{AttrSpec}
use Rattle.tk_ids.specs.declared.attr.AttrValue.{AttrValue}
use Rattle.tk_ids.specs.declared.spec.TaskKind.{TaskKind}
use Rattle.tk_ids.specs.declared.spec.TaskKind.TheVariants.{Spawn, Blocking}
use Rattle.tk_events.specs.Items.{info_of, infos_of}
use Rattle.tk_script.specs.Attributes.{attr_spec, named_value, value_of, attr, and_word, attrs_by}
use Rattle.tk_script.specs.Commands.{Said, Line, skipped, bad, says, opens, joins, works, task, resource, op, poll_op, start, finish, close, self_wake, clone, again, wake_ref, wake, release, close_resource, change_resource, op_task, start_op, finish_op, close_op, change_op, capacity, retention, times, waits, publish, Form, forms, task_forms, waker_forms, resource_call_forms, op_call_forms, line_forms, task_by, polls_by, resource_by, change_by, op_by, poll_op_by, alone, capacity_by, said_in, said_by, said, is_skipped, worker_of, worker_line_by, block_said_by, block_said, line_of, lines_of}
use Rattle.tk_script.specs.Pieces.{pieces_at}
use Rattle.tk_script.specs.Words.{moment, kind, readiness, one_number, two_numbers, five_numbers}
use Rattle.tk_script.specs.declared.block.Worker.{Worker}
use Rattle.tk_core.specs.declared.attrs.AttrOp.TheVariants.{Add, Sub, Override}
use Rattle.tk_app.proofs.PartSizes.{attr_size}
use Rattle.tk_app.proofs.Sums.{long, pieces_long, sum_map, sum_times, sum_under}

-- what the item takes at most that a command makes
abbrev pub said_size : Said → ℕ
said_size (task at kind name) = 2729 + 6 * length name
said_size (resource at kind concrete attrs) = 816 + (6 * length kind + 6 * length concrete) + sum_by attr_size (infos_of attrs)
said_size (op at r source attrs) = 1030 + 6 * length source + sum_by attr_size (infos_of attrs)
said_size (poll_op r o t name ready) = 200
said_size s = 0

-- and what a line makes
abbrev pub line_size : Line → ℕ
line_size (says s) = said_size s
line_size line = 0

-- ---- where something may be, it takes no more than this

record Fits {A : Type 0} (size : A → ℕ) (most : ℕ) (o : Option A) : Type 0 where
  fit : IfSome o (λ x. size x ≤ most)

module _ {A : Type 0} {size : A → ℕ} {most : ℕ} where
  fits_none : Fits size most None
  fits_none = record { fit = tt }

  fits_some : {x : A} → size x ≤ most → Fits size most (Some x)
  fits_some le = record { fit = le }

  fits_if : (b : Bool) {o p : Option A} → Fits size most o → Fits size most p → Fits size most (cond b o p)
  fits_if true f g = f
  fits_if false f g = g

  fits_test : (b : Bool) {o p : Option A} → (b ≡ true → Fits size most o) → Fits size most p → Fits size most (cond b o p)
  fits_test true f g = f refl
  fits_test false f g = g

  fits_map : {X : Type 0} (f : X → A) (o : Option X) → ((x : X) → size (f x) ≤ most) → Fits size most (option_map f o)
  fits_map f (Some x) le = fits_some (le x)
  fits_map f None le = fits_none

  fits_then : {X : Type 0} {f : X → Option A} (o : Option X) → ((x : X) → Fits size most (f x)) → Fits size most (option_and_then f o)
  fits_then (Some x) each = each x
  fits_then None each = fits_none

  fits_more : (least : ℕ) {o : Option A} → least ≤ most → Fits size least o → Fits size most o
  fits_more least {o = Some x} le f = let it : size x ≤ least = f.fit in fits_some (omega arith)
  fits_more least {o = None} le f = fits_none

-- ---- attributes

abbrev attrs_size : List AttrSpec → ℕ
attrs_size attrs = sum_by attr_size (infos_of attrs)

named_fits : (name word : List ℕ) → Fits (λ a. attr_size (info_of a)) (90 + 6 * length name) (named_value name word)
named_fits name word = fits_if _ (fits_map (attr_spec name) (value_of word) (λ first. omega arith)) fits_none

attr_fits : (word : List ℕ) → Fits (λ a. attr_size (info_of a)) (236 * long word) (attr word)
attr_fits word = fits_then (position (λ b. b == 61) word) (λ at. fits_more (90 + 6 * length (take at word)) (omega (arith, length-take at word)) (named_fits (take at word) (drop (at + 1) word)))

attrs_more : (attrs : List AttrSpec) (a : AttrSpec) → attrs_size (attrs ++ a ∷ []) ≡ attrs_size attrs + attr_size (info_of a)
attrs_more [] a = omega arith
attrs_more (b ∷ attrs) a = omega (arith, sum_by-cons attr_size (info_of b) (infos_of attrs), sum_by-cons attr_size (info_of b) (infos_of (attrs ++ a ∷ [])), attrs_more attrs a)

word_fits : (so_far : ℕ) (word : List ℕ) (o : Option (List AttrSpec)) → Fits attrs_size so_far o → Fits attrs_size (so_far + 236 * long word) (and_word o word)
word_fits so_far word None f = fits_none
word_fits so_far word (Some attrs) f = by (attr word) (attr_fits word)
  where
    by : (o : Option AttrSpec) → Fits (λ a. attr_size (info_of a)) (236 * long word) o → Fits attrs_size (so_far + 236 * long word) (option_map (λ more. attrs ++ more ∷ []) o)
    by None g = fits_none
    by (Some a) g = fits_some (omega (arith, attrs_more attrs a, f.fit, g.fit))

words_fit : (so_far : ℕ) (words : List (List ℕ)) (o : Option (List AttrSpec)) → Fits attrs_size so_far o → Fits attrs_size (so_far + 236 * sum_by long words) (fold and_word o words)
words_fit so_far [] o f = fits_more so_far (omega arith) f
words_fit so_far (word ∷ words) o f =
    fits_more (so_far + 236 * long word + 236 * sum_by long words) (omega (arith, sum_by-cons long word words)) (words_fit (so_far + 236 * long word) words (and_word o word) (word_fits so_far word o f))

attrs_fit : (words : List (List ℕ)) → Fits attrs_size (236 * sum_by long words) (attrs_by words)
attrs_fit words = by (fold and_word (Some []) words) (words_fit 0 words (Some []) (fits_some (omega arith)))
  where
    by : (o : Option (List AttrSpec)) → Fits attrs_size (0 + 236 * sum_by long words) o → Fits attrs_size (236 * sum_by long words) (option_and_then (λ a. cond (are_attributes (spec_names a)) (Some a) None) o)
    by None f = fits_none
    by (Some attrs) f = fits_if _ (fits_some (omega (arith, f.fit))) fits_none

-- ---- commands that make an item

kind_long : (k : List ℕ) → IfSome (kind k) (λ of. 5 ≤ length k)
kind_long k = by (bytes_eq k (codes "spawn")) (bytes_eq k (codes "blocking")) (bytes_eq-Decides k (codes "spawn")).0 (bytes_eq-Decides k (codes "blocking")).0
  where
    by : (b c : Bool) → (b ≡ true → k ≡ codes "spawn") → (c ≡ true → k ≡ codes "blocking") → IfSome (cond b (Some Spawn) (cond c (Some Blocking) None)) (λ of. 5 ≤ length k)
    by true c spawn blocking = omega (arith, ap length (spawn refl))
    by false true spawn blocking = omega (arith, ap length (blocking refl))
    by false false spawn blocking = tt

named_task : (most at : ℕ) (of : TaskKind) (n : List ℕ) → (1 ≤ length n → 2729 + 6 * length n ≤ most) → Fits said_size most (cond (is_name n) (Some (task at of n)) None)
named_task most at of [] le = fits_none
named_task most at of (c ∷ n) le = fits_if _ (fits_some (le (omega arith))) fits_none

kind_task : (most at : ℕ) (k n : List ℕ) → (5 ≤ length k → 1 ≤ length n → 2729 + 6 * length n ≤ most) → Fits said_size most (option_and_then (λ of. cond (is_name n) (Some (task at of n)) None) (kind k))
kind_task most at k n le = by (kind k) (kind_long k)
  where
    by : (o : Option TaskKind) → IfSome o (λ of. 5 ≤ length k) → Fits said_size most (option_and_then (λ of. cond (is_name n) (Some (task at of n)) None) o)
    by None far = fits_none
    by (Some of) far = named_task most at of n (le far)

-- `task` and four words
task_fits : (words : List (List ℕ)) → Fits said_size (236 * (5 + sum_by long words)) (task_by words)
task_fits ([] ∷ k ∷ n ∷ []) = fits_none
task_fits ((b ∷ m) ∷ k ∷ n ∷ []) = fits_then (moment (b ∷ m)) (λ at. kind_task _ at k n (λ far some. omega arith))
task_fits _ = fits_none

attrs_then : (most : ℕ) (words : List (List ℕ)) (make : List AttrSpec → Said) → ((attrs : List AttrSpec) → attrs_size attrs ≤ 236 * sum_by long words → said_size (make attrs) ≤ most) → Fits said_size most (option_map make (attrs_by words))
attrs_then most words make le = by (attrs_by words) (attrs_fit words)
  where
    by : (o : Option (List AttrSpec)) → Fits attrs_size (236 * sum_by long words) o → Fits said_size most (option_map make o)
    by None f = fits_none
    by (Some attrs) f = fits_some (le attrs f.fit)

resource_fits : (words : List (List ℕ)) → Fits said_size (236 * (1 + sum_by long words)) (resource_by words)
resource_fits (m ∷ k ∷ t ∷ words) =
    fits_then (moment m) (λ at. fits_if _ (attrs_then _ words (resource at k t) (λ attrs le. omega (arith, le, sum_by-cons long m (k ∷ t ∷ words), sum_by-cons long k (t ∷ words), sum_by-cons long t words))) fits_none)
resource_fits _ = fits_none

-- `op` and words
op_fits : (words : List (List ℕ)) → Fits said_size (236 * (1 + sum_by long words)) (op_by words)
op_fits ([] ∷ r ∷ source ∷ words) = fits_none
op_fits ((b ∷ m) ∷ r ∷ source ∷ words) =
    fits_then (moment (b ∷ m)) (λ at. fits_then (moment r) (λ n. fits_if _ (attrs_then _ words (op at n source)
    (λ attrs le. omega (arith, le, sum_by-cons long (b ∷ m) (r ∷ source ∷ words), sum_by-cons long r (source ∷ words), sum_by-cons long source words))) fits_none))
op_fits _ = fits_none

poll_op_fits : (words : List (List ℕ)) → Fits said_size (236 * (1 + sum_by long words)) (poll_op_by words)
poll_op_fits (r ∷ o ∷ t ∷ name ∷ end ∷ []) = fits_then (moment r) (λ on. fits_then (moment o) (λ by. fits_then (moment t) (λ of. fits_if _ (fits_map (poll_op on by of name) (readiness end) (λ ready. omega arith)) fits_none)))
poll_op_fits _ = fits_none

-- ---- all commands

alone_fits : {A : Type 0} {size : A → ℕ} {most : ℕ} (x : A) (words : List (List ℕ)) → size x ≤ most → Fits size most (alone x words)
alone_fits x [] le = fits_some le
alone_fits x (w ∷ words) le = fits_none

module _ {most : ℕ} (words : List (List ℕ)) where
  one_free : (f : ℕ → Said) → ((n : ℕ) → said_size (f n) ≡ 0) → Fits said_size most (option_map f (one_number words))
  one_free f none = fits_map f (one_number words) (λ n. omega (arith, none n))

  two_free : (f : ℕ → ℕ → Said) → ((m n : ℕ) → said_size (f m n) ≡ 0) → Fits said_size most (option_map (λ p. f p.0 p.1) (two_numbers words))
  two_free f none = fits_map (λ (p : ℕ × ℕ). f p.0 p.1) (two_numbers words) (λ p. omega (arith, none p.0 p.1))

  change_free : (f : ℕ → ℕ → AttrValue → Said) → ((m n : ℕ) (v : AttrValue) → said_size (f m n v) ≡ 0) → Fits said_size most (option_map (λ p. f p.0 p.1 p.2) (change_by words))
  change_free f none = fits_map (λ (p : ℕ × ℕ × AttrValue). f p.0 p.1 p.2) (change_by words) (λ p. omega (arith, none p.0 p.1 p.2))

-- each form of a table fits by its word and the words after it
abbrev AllFit : List Form → List (List ℕ) → Type 0
AllFit [] words = Unit {0}
AllFit (form ∷ forms) words = Fits said_size (236 * (long form.0 + sum_by long words)) (form.1 words) × AllFit forms words

in_fits : (table : List Form) (w : List ℕ) (words : List (List ℕ)) → AllFit table words → Fits said_size (236 * (long w + sum_by long words)) (said_in table w words)
in_fits [] w words fit = fits_none
in_fits (form ∷ more) w words (fit, rest) =
    fits_test (bytes_eq w form.0) (λ is. fits_more (236 * (long form.0 + sum_by long words)) (omega (arith, ap length ((bytes_eq-Decides w form.0).0 is))) fit) (in_fits more w words rest)

polls_fit : {most : ℕ} (words : List (List ℕ)) → Fits said_size most (polls_by words)
polls_fit words = fits_then (five_numbers words) (λ p. fits_if _ (fits_some (omega arith)) fits_none)

capacity_fits : {most : ℕ} (words : List (List ℕ)) → Fits said_size most (capacity_by words)
capacity_fits words = fits_then (one_number words) (λ n. fits_if (nat_le 1 n && nat_le n 65536) (fits_some {x = capacity n} (omega arith)) fits_none)

both_fit : (xs ys : List Form) (words : List (List ℕ)) → AllFit xs words → AllFit ys words → AllFit (xs ++ ys) words
both_fit [] ys words f g = g
both_fit (x ∷ xs) ys words (here, f) g = (here, both_fit xs ys words f g)

task_forms_fit : (words : List (List ℕ)) → AllFit task_forms words
task_forms_fit words = (task_fits words, (two_free words start (λ m n. refl), (two_free words finish (λ m n. refl), (polls_fit words, (two_free words close (λ m n. refl), (two_free words self_wake (λ m n. refl), (one_free words clone (λ n. refl), tt)))))))

waker_forms_fit : (words : List (List ℕ)) → AllFit waker_forms words
waker_forms_fit words = (one_free words again (λ n. refl), (two_free words wake_ref (λ m n. refl), (two_free words wake (λ m n. refl), (one_free words release (λ n. refl), tt))))

resource_call_forms_fit : (words : List (List ℕ)) → AllFit resource_call_forms words
resource_call_forms_fit words = (change_free words (λ n i v. change_resource n i (Add v)) (λ m n v. refl), (change_free words (λ n i v. change_resource n i (Sub v)) (λ m n v. refl), (change_free words (λ n i v. change_resource n i (Override v)) (λ m n v. refl), (two_free words close_resource (λ m n. refl), tt))))

op_call_forms_fit : (words : List (List ℕ)) → AllFit op_call_forms words
op_call_forms_fit words = (two_free words op_task (λ m n. refl), (two_free words start_op (λ m n. refl), (two_free words finish_op (λ m n. refl), (two_free words close_op (λ m n. refl), (change_free words (λ n i v. change_op n i (Add v)) (λ m n v. refl), (change_free words (λ n i v. change_op n i (Sub v)) (λ m n v. refl), (change_free words (λ n i v. change_op n i (Override v)) (λ m n v. refl), (fits_more (236 * (1 + sum_by long words)) (omega arith) (poll_op_fits words), tt))))))))

line_forms_fit : (words : List (List ℕ)) → AllFit line_forms words
line_forms_fit words = (one_free words (λ at. publish at false) (λ n. refl), (one_free words (λ at. publish at true) (λ n. refl), (capacity_fits words, (one_free words retention (λ n. refl), (alone_fits times words (omega arith), (alone_fits waits words (omega arith), tt))))))

forms_fit : (words : List (List ℕ)) → AllFit forms words
forms_fit words =
    let lines = both_fit op_call_forms line_forms words (op_call_forms_fit words) (line_forms_fit words) in
    let calls = both_fit resource_call_forms (op_call_forms ++ line_forms) words (resource_call_forms_fit words) lines in
    let wakers = both_fit waker_forms (resource_call_forms ++ (op_call_forms ++ line_forms)) words (waker_forms_fit words) calls in
    let least = 236 * (1 + sum_by long words) in
    (fits_more least (omega arith) (resource_fits words), (fits_more least (omega arith) (op_fits words), both_fit task_forms (waker_forms ++ (resource_call_forms ++ (op_call_forms ++ line_forms))) words (task_forms_fit words) wakers))

said_fits : (words : List (List ℕ)) → Fits said_size (236 * sum_by long words) (said_by words)
said_fits [] = fits_none
said_fits (w ∷ words) = fits_more (236 * (long w + sum_by long words)) (omega (arith, sum_by-cons long w words)) (in_fits forms w words (forms_fit words))

-- ---- lines

worker_line_free : {most : ℕ} (k : Worker) (words : List (List ℕ)) → Fits line_size most (option_map (works k) (worker_line_by words))
worker_line_free k words = fits_map (works k) (worker_line_by words) (λ l. omega arith)

block_fits : (most : ℕ) (words : List (List ℕ)) → Fits line_size most (block_said_by words)
block_fits most [] = fits_none
block_fits most (w ∷ words) = fits_if _ (alone_fits opens words (omega arith)) (fits_if _ (alone_fits joins words (omega arith)) (fits_then (worker_of w) (λ k. worker_line_free k words)))

-- what a line's item takes, by how long the line is
pub line_fits : (text : List ℕ) → line_size (line_of text) ≤ 236 * long text
line_fits text = by (is_skipped text) (block_said text) (block_fits (236 * long text) (pieces_at 32 text)) (said text) (said_fits (pieces_at 32 text))
  where
    by : (b : Bool) (o : Option Line) → Fits line_size (236 * long text) o → (p : Option Said) → Fits said_size (236 * sum_by long (pieces_at 32 text)) p
        → line_size (cond b skipped (option_map_or (λ l. l) o (option_map_or says p bad))) ≤ 236 * long text
    by true o f p g = omega arith
    by false (Some l) f p g = f.fit
    by false None f (Some s) g = omega (arith, g.fit, pieces_long (λ b. b == 32) text)
    by false None f None g = omega arith

-- and of all lines of a script
pub script_fits : (script : List ℕ) → sum_by line_size (lines_of script) ≤ 236 * long script
script_fits script =
    let pieces = pieces_at 10 script in
    omega (arith, sum_map line_size line_of pieces, sum_under (λ piece. line_size (line_of piece)) (λ piece. 236 * long piece) line_fits pieces, sum_times 236 long pieces, pieces_long (λ b. b == 10) script)
