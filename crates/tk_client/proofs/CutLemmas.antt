-- Tables that grew, and what is cut off of them.
use Rattle.std.proofs.Common.{◌≡◌, ℕ, List, [], ◌∷◌, ◌++◌, length, take, refl, ap, ap₂, ◌∙◌}
use Rattle.std.specs.Prelude.{OnErr, Result, Ok, Err}
use Rattle.tk_stream.specs.Tables.{TablesView, PollCounts, cut_to}
use Rattle.tk_client.specs.Applying.{Begins, begins_same, Grown}

pub begins-more : {A : Type 0} (xs ys zs : List A) → Begins xs ys → Begins xs (ys ++ zs)
begins-more [] ys zs b = tt
begins-more (x ∷ xs) [] zs b = absurd b
begins-more (x ∷ xs) (y ∷ ys) zs b = (b.0, begins-more xs ys zs b.1)

begins-on : {A : Type 0} (xs ys zs : List A) → Begins xs ys → Begins ys zs → Begins xs zs
begins-on [] ys zs b d = tt
begins-on (x ∷ xs) [] zs b d = absurd b
begins-on (x ∷ xs) (y ∷ ys) [] b d = absurd d
begins-on (x ∷ xs) (y ∷ ys) (z ∷ zs) b d = (d.0 ∙ b.0, begins-on xs ys zs b.1 d.1)

begins-take : {A : Type 0} (xs ys : List A) → Begins xs ys → take (length xs) ys ≡ xs
begins-take [] ys b = refl
begins-take (x ∷ xs) [] b = absurd b
begins-take (x ∷ xs) (y ∷ ys) b = ap₂ (λ z zs. z ∷ zs) b.0 (begins-take xs ys b.1)

pub grown-same : (v : TablesView) → Grown v v
grown-same v = record {
  tasks = begins_same v.tasks;
  resources = begins_same v.resources;
  ops = begins_same v.ops;
  counts = begins_same v.counts;
  dropped = refl;
  now = refl;
}

pub grown-on : (v w u : TablesView) → Grown v w → Grown w u → Grown v u
grown-on v w u g h = record {
  tasks = begins-on v.tasks w.tasks u.tasks g.tasks h.tasks;
  resources = begins-on v.resources w.resources u.resources g.resources h.resources;
  ops = begins-on v.ops w.ops u.ops g.ops h.ops;
  counts = begins-on v.counts w.counts u.counts g.counts h.counts;
  dropped = h.dropped ∙ g.dropped;
  now = h.now ∙ g.now;
}

pub grown-counts : (v : TablesView) (more : List PollCounts) → Grown v (record v { counts = v.counts ++ more })
grown-counts v more = record {
  tasks = begins_same v.tasks;
  resources = begins_same v.resources;
  ops = begins_same v.ops;
  counts = begins-more v.counts v.counts more (begins_same v.counts);
  dropped = refl;
  now = refl;
}

-- what was put in is cut off again
pub cut-back : (old new cut : TablesView) (tasks resources ops counted : ℕ) → Grown old new → tasks ≡ length old.tasks → resources ≡ length old.resources → ops ≡ length old.ops → counted ≡ length old.counts
    → cut ≡ cut_to new tasks resources ops counted → cut ≡ old
cut-back old new cut tasks resources ops counted g t r o n e =
    e ∙ (λ i. record {
      tasks = (ap (λ k. take k new.tasks) t ∙ begins-take old.tasks new.tasks g.tasks) i;
      resources = (ap (λ k. take k new.resources) r ∙ begins-take old.resources new.resources g.resources) i;
      ops = (ap (λ k. take k new.ops) o ∙ begins-take old.ops new.ops g.ops) i;
      counts = (ap (λ k. take k new.counts) n ∙ begins-take old.counts new.counts g.counts) i;
      dropped = g.dropped i;
      now = g.now i;
    })

pub on-err : {A E P : Type 0} (r : Result A E) → P → OnErr r P
on-err (Ok x) p = tt
on-err (Err e) p = p
