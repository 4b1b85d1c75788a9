-- `later` meets its contract: the entries behind place i are counted by their places.
use Rattle.std.proofs.Common.{ℕ, ◌+◌, ◌-◌, ◌≡◌, ◌∙◌, Bool, List, ap, ltb, length, get_or, drop, length-drop, get_or-drop, count_by, arith}
use Rattle.std.proofs.lemmas.List.{take_rest}
use Rattle.lemmas.specs.Counts.{count_where, count_places, count_ext, count_most}
use Rattle.orders.specs.Rank.{later}
use Rattle.orders.specs.Answers.{word}
use Rattle.orders.proofs.later.Goals as goal

pub returns : goal.returns
returns c =
    let xs : List ℕ = c.args.row.now in
    let behind : List ℕ = drop (c.args.i + 1) xs in
    let less : ℕ → Bool = λ y. ltb y (get_or xs c.args.i 0) in
    let counted : c.count_below.result ≡ count_by less behind = c.count_below.ensures ∙ ap (count_by less) (take_rest xs (c.args.i + 1)) in
    let long : length behind ≡ 4 - c.args.i = omega (arith, length-drop (c.args.i + 1) xs) in
    let at : ℕ → Bool = λ k. less (get_or behind k 0) in
    let same : count_where at (4 - c.args.i) ≡ later (word xs) c.args.i =
    count_ext at _ (4 - c.args.i) (λ k l. ap less (get_or-drop (c.args.i + 1) xs k 0)) in
    record {
      is = counted ∙ (count_places 0 less behind ∙ (ap (count_where at) long ∙ same));
      most = omega (arith, counted, count_places 0 less behind, ap (count_where at) long, count_most at (4 - c.args.i));
    }
