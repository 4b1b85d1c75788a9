-- `fill_bytes_below` meets its contract: refused by the verdict, or written.
use Rattle.std.proofs.Common.{◌≤◌, true, length, rules, arith}
use Rattle.paper.specs.Refusal.Rule.{Kept}
use Rattle.draws.specs.Draw.{number, Topped}
use Rattle.draws.specs.Fill.{number_rules, go_on}
use Rattle.draws.proofs.Choosing.{within_low, within_top}
use Rattle.draws.proofs.Trying.{taken_below}
use Rattle.draws.proofs.Filling.{written_by}
use Rattle.draws.proofs.fills.fill_bytes_below.Goals as goal

pub write-requires : goal.write-requires
write-requires c =
    let rules_of = number_rules true 256 c.args.m (length c.args.bytes.now) c.args.source in
    let kept : Kept rules_of = c.in_ok-number_verdict.ensures in
    let low : 1 ≤ c.args.m = within_low 1 256 _ kept.1.0 in
    let most : c.args.m ≤ 256 = within_top 1 256 _ kept.1.0 in
    let topped : Topped c.from-n.result c.limit_of-top.result = record { some = omega (arith, c.from-n.ensures, low); at = c.limit_of-top.ensures } in
    record {
      at = λ a. (
        λ _ _ _ _ _ _ _. topped,
        λ _ _ _ _ _ _ d _. record { fits = omega (arith, taken_below c.from-n.result a.0 d.result d.ensures topped.some, c.from-n.ensures, most) },
      );
    }

pub returns : goal.returns
returns c = record {
  valid = search rules;
  written = written_by (λ t. (number c.args.m t).value) (go_on (number c.args.m)) (λ t r k. search rules) c.write.ensures;
}
