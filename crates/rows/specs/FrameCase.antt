-- Row 13's text, by computing.
use Rattle.std.specs.Prelude.{ℕ, zero, suc, ◌<◌, ◌≡◌, refl, Bool, true, List, [], ◌∷◌, ◌++◌, length, get_or}
use Rattle.std.proofs.Common.{inr, arith}
use Rattle.lemmas.specs.Cells.{table}
use Rattle.lemmas.specs.Bools.{every, below_test, below_by}
use Rattle.paper.specs.declared.Mode.TheVariants.{Perm}
use Rattle.paper.specs.Answer.Cases.{Answer.Moved}
use Rattle.paper.specs.Refusal.Rules.{group_names, Named}
use Rattle.paper.specs.Refusal.Kept.{Valid, valid_of}
use Rattle.paper.specs.Answer.Frame.{Spelt, hex, unhex, first_line, next, bytes, words, two_bytes, HasBack, FrameAnswers}
use Rattle.paper.specs.Answer.Move.{Accepted.moved}
use Rattle.paper.specs.Rows.Cases.{frame, frame_perms, before13, after13, moved13, codes, case_text, case_out}
use Rattle.laws.specs.FrameKept.{frame_valid_kept}
use Rattle.rows.specs.Worked.{answer13}

valid13 : Valid (frame Perm) frame_perms before13
valid13 = valid_of (frame Perm) frame_perms before13 answer13.valid

-- the case's group names both systems, so its rows are all
both_named : (t : ℕ) → t < 2 → Named 2 (group_names (frame Perm).group) t
both_named zero h = record { place = 0; below = omega arith; is = refl; inside = h }
both_named (suc zero) h = record { place = 1; below = omega arith; is = refl; inside = h }
both_named (suc (suc t)) h = absurd (omega arith)

case_back : HasBack case_text
unfolding codes unhex first_line next words
case_back = record {
  bwd = 2 ∷ 0 ∷ 1 ∷ [];
  long = refl;
  inverse = record { there = valid13.sound.inverse.there; here = valid13.sound.inverse.here };
}

-- a line by its bytes, each below 256
abbrev small_test : List ℕ → Bool
small_test text = below_test (length (bytes text)) 256 (λ k. get_or (bytes text) k 0)

spelt_by : (tag : ℕ) (text : List ℕ) → text ≡ hex (tag ∷ bytes text) ++ (10 ∷ next text) → small_test text ≡ true → Spelt tag text
spelt_by tag text e h = record { is = e; small = below_by (length (bytes text)) 256 (λ k. get_or (bytes text) k 0) h }

pub whole_case : FrameAnswers case_text case_out
unfolding codes hex unhex first_line next words two_bytes table every case_back
whole_case = inr (record {
  valid = frame_valid_kept case_text (record {
    sizes_line = record { spelt = spelt_by 0x10 case_text refl refl; long = refl };
    sizes = record { n_low = omega arith; n_high = omega arith; d_low = omega arith; d_high = omega arith; s_low = omega arith; s_high = omega arith };
    spins_line = record { spelt = spelt_by 0x11 (next case_text) refl refl; long = refl };
    forward_line = record { spelt = spelt_by 0x12 (next (next case_text)) refl refl; long = refl };
    group_line = spelt_by 0x13 (next (next (next case_text))) refl refl;
    group_size = record { low = omega arith; high = omega arith };
    perms_line = record { spelt = spelt_by 0x14 (next (next (next (next case_text)))) refl refl; long = refl };
    ended = refl;
    spins = λ t i h hi. valid13.sound.spins t i (both_named t h) hi;
    back = case_back;
    grouped = record { below = valid13.sound.grouped.below; distinct = valid13.sound.grouped.distinct };
    chosen = record {
      perms = valid13.fit.chosen.perms;
      not_identity_lem = valid13.fit.chosen.not_identity_lem;
      flips = valid13.fit.chosen.flips;
      greys = valid13.fit.chosen.greys;
      grey_some = valid13.fit.chosen.grey_some;
      reference = valid13.fit.chosen.reference;
    };
  });
  back = case_back;
  answer = Moved;
  after = after13 moved13;
  accepted = moved;
  answers = answer13;
  written = refl;
})
