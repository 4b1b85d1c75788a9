-- `grow_cluster` meets its contract.
use mathlib.Core.Path.{refl, sym, ◌∙◌}
use mathlib.Core.List.{[]}
use Rattle.grow.proofs.Whole.{seeded, blue_seeds, kept_of, first_by, plain, second_by, both}
use Rattle.grow.proofs.growing.grow_cluster.Goals as goal

pub spread-blue-requires-clause-growing : goal.spread-blue-requires-clause-growing
spread-blue-requires-clause-growing c = seeded c.requires c.args.list.now c.prepare-rule.ensures c.clear.ensures refl

pub spread-len-requires-clause-growing : goal.spread-len-requires-clause-growing
spread-len-requires-clause-growing c =
    let cmr = sym c.is_cmr.ensures ∙ c.if-is_cmr.true in
    blue_seeds c.requires [] cmr c.prepare-both.ensures (first_by c.requires [] c.prepare-rule.ensures c.spread-blue.ensures.grown)

pub returns-then-is_cmr : goal.returns-then-is_cmr
returns-then-is_cmr c = let cmr = sym c.is_cmr.ensures ∙ c.if-is_cmr.true in
    record {
      grown = λ pins.
          both c.requires pins cmr
          (first_by c.requires pins c.prepare-rule.ensures c.spread-blue.ensures.grown)
          (second_by c.requires pins cmr c.prepare-both.ensures c.spread-len.ensures.grown);
      kept = kept_of c.requires c.prepare-both.ensures c.spread-len.ensures.kept;
    }

pub returns : goal.returns
returns c = record {
  grown = λ pins. plain c.requires pins (sym c.is_cmr.ensures ∙ c.if-is_cmr.false) (first_by c.requires pins c.prepare-rule.ensures c.spread-blue.ensures.grown);
  kept = kept_of c.requires c.prepare-rule.ensures c.spread-blue.ensures.kept;
}
