-- `settle` meets its contract.
use Prim.Native.Nat.{◌≤◌}
use borrow.Author.Rules.{rules}
use lib.ListN.{length}
use lib.Seq.{length-take-le}
use Rattle.matching.proofs.Found.{words_ask, settles}
use Rattle.matching.proofs.Repeated.{all_alike}
use Rattle.matching.proofs.settle.Goals as goal

pub first_fault-requires : goal.first_fault-requires
first_fault-requires c =
    let room : length c.args.olds.now ≤ 4096 = c.requires.sites in
    words_ask c.requires c.highest.ensures c.repeat.ensures (length-take-le _ _ room) (all_alike (c.fill.ensures.after (λ y e. search rules)))
    c.narrow_all.ensures c.count_up.ensures

pub returns : goal.returns
returns c =
    let room : length c.args.olds.now ≤ 4096 = c.requires.sites in
    settles c.requires c.highest.ensures c.repeat.ensures (length-take-le _ _ room) (all_alike (c.fill.ensures.after (λ y e. search rules)))
    c.narrow_all.ensures c.count_up.ensures c.first_fault.ensures
