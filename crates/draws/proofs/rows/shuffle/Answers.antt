-- `shuffle` meets its contract. The invariant: the places below i, exchanged in the present row, make the permutation of the lent source.
use Rattle.std.specs.Prelude.{Ok, Err}
use Rattle.std.proofs.Common.{◌≡◌, ℕ, ◌+◌, ◌-◌, [], ◌∷◌, sym, refl, ap, ◌∙◌, arith}
use Rattle.std.proofs.lemmas.Grind.{common_steps}
use Rattle.paper.specs.declared.Refusal.{Refusal}
use Rattle.draws.specs.Answer.{drawn_of}
use Rattle.draws.specs.Rows.{drawn_row, shuffled}
use Rattle.draws.proofs.Telling.{not_zero, number_twelve}
use Rattle.draws.proofs.Trying.{drawn_below}
use Rattle.draws.proofs.Shuffling.{place_refused, place_done}
use Rattle.draws.proofs.rows.shuffle.Goals as goal

pub returns-in_err-d : goal.returns-in_err-d
returns-in_err-d c = let h = c.loop-i in
    let e : Refusal = c.in_err-d.field-0.0 in
    let back : c.from_residual.result ≡ Err e = grind (arith, common_steps) in
    rw back
    (ap (λ (x : ℕ). drawn_row x (0 ∷ 0 ∷ 0 ∷ 0 ∷ 0 ∷ 0 ∷ 0 ∷ 0 ∷ []) c.args.s) (sym (number_twelve (h.i - 1 + 1) h.source e c.in_err-d.ensures))
    ∙ (place_refused c.args.s h.row h.source (h.i - 1) (drawn_of h.source (Err e)) (omega arith) c.in_err-d.ensures (not_zero e) ∙ h.invariant))

pub bounds-row-j : goal.bounds-row-j
bounds-row-j c = let h = c.loop-i in
    omega (arith, drawn_below (h.i - 1 + 1) h.source (drawn_of h.source (Ok c.in_ok-d.d)) c.in_ok-d.ensures (omega arith))

pub bounds-row-j-in-loop-i : goal.bounds-row-j-in-loop-i
bounds-row-j-in-loop-i c = let h = c.loop-i in
    omega (arith, drawn_below (h.i - 1 + 1) h.source (drawn_of h.source (Ok c.in_ok-d.d)) c.in_ok-d.ensures (omega arith))

pub loop-i-preserved : goal.loop-i-preserved
loop-i-preserved c = let h = c.loop-i in
    place_done c.args.s h.row h.source (h.i - 1) (drawn_of h.source (Ok c.in_ok-d.d)) (omega arith) c.in_ok-d.ensures refl ∙ h.invariant

pub returns : goal.returns
unfolding shuffled
returns c =
    let none : c.loop-i.i - 1 ≡ 0 = omega arith in
    rw none at c.loop-i.invariant
