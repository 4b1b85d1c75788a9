-- `find` meets its contract: where the seed acts its cluster is grown and its pins are looked at; and else there are no members.
use Prim.Native.Nat.{zero-le}
use mathlib.Core.Path.{◌≡◌, refl, ◌∙◌}
use mathlib.Core.Bool.{true}
use Rattle.lemmas.specs.Tells.{told, denied}
use Rattle.paper.specs.Panel.Made.{call_of}
use Rattle.paper.specs.Site.Acting.{acts}
use Rattle.grow.specs.Finding.{acts_seed, finds_none, kept_none, lookable, finds_held, finds_free}
use Rattle.grow.proofs.find.Goals as goal

pub returns-then-not-acts_at : goal.returns-then-not-acts_at
returns-then-not-acts_at c =
    let seed-told : let a = c.args in acts (call_of a.t a.fwd.now a.bwd.now a.pins.now a.couplings.now a.cuts.now) a.spins.now a.t.seed ≡ c.acts_at.result = acts_seed c.requires c.acts_at.ensures in
    record {
      grown = finds_none c.requires (seed-told ∙ c.if-not-acts_at.true) c.clear.ensures;
      kept = kept_none c.requires c.clear.ensures refl;
    }

pub some_pinned-requires : goal.some_pinned-requires
some_pinned-requires c = let grew = c.grow_cluster-grown.ensures.grown c.args.pins.now in
    lookable c.requires grew _ _ zero-le grew.more

-- and held
pub returns-then-some_pinned : goal.returns-then-some_pinned
returns-then-some_pinned c =
    let seed-told : let a = c.args in acts (call_of a.t a.fwd.now a.bwd.now a.pins.now a.couplings.now a.cuts.now) a.spins.now a.t.seed ≡ c.acts_at.result = acts_seed c.requires c.acts_at.ensures in
    let on : let a = c.args in acts (call_of a.t a.fwd.now a.bwd.now a.pins.now a.couplings.now a.cuts.now) a.spins.now a.t.seed ≡ true = seed-told ∙ c.if-not-acts_at.false in
    record {
      grown = finds_held c.requires (c.grow_cluster-grown.ensures.grown c.args.pins.now) on (told c.if-some_pinned.true c.some_pinned.ensures);
      kept = c.grow_cluster-grown.ensures.kept;
    }

-- or free
pub returns : goal.returns
returns c =
    let seed-told : let a = c.args in acts (call_of a.t a.fwd.now a.bwd.now a.pins.now a.couplings.now a.cuts.now) a.spins.now a.t.seed ≡ c.acts_at.result = acts_seed c.requires c.acts_at.ensures in
    let on : let a = c.args in acts (call_of a.t a.fwd.now a.bwd.now a.pins.now a.couplings.now a.cuts.now) a.spins.now a.t.seed ≡ true = seed-told ∙ c.if-not-acts_at.false in
    record {
      grown = finds_free c.requires (c.grow_cluster-grown.ensures.grown c.args.pins.now) on (denied c.if-some_pinned.false c.some_pinned.ensures);
      kept = c.grow_cluster-grown.ensures.kept;
    }
