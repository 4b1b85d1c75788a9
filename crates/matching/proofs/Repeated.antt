-- A list of one number again and again.
use Rattle.std.proofs.Common.{◌≡◌, ℕ, ◌∙◌, sym, ap, List, length, replicate, arith}
use Rattle.std.proofs.Math.ListN.{get_or-eq_default}
use Rattle.std.proofs.lemmas.List.{get_or-replicate, length-replicate}
use Rattle.lemmas.specs.Stores.{Whole}

pub all_alike : {x : ℕ} {xs ys : List ℕ} → ys ≡ replicate (length xs) x → Whole 0 (λ k. x) xs ys
all_alike {x} {xs} {ys} e =
    let long : length ys ≡ length xs = ap length e ∙ length-replicate (length xs) x in
    record {
      long = long;
      done = λ j h. rw e (get_or-replicate (length xs) j x 0 h);
      rest = λ j h. get_or-eq_default ys 0 (omega arith) ∙ sym (get_or-eq_default xs 0 h);
    }
