-- The rules that an accepted text keeps, by name.
use Rattle.std.specs.Prelude.{ℕ, ◌*◌, ◌≡◌, List, [], length}
use Rattle.paper.specs.Refusal.Rule.{Kept}
use Rattle.paper.specs.Refusal.Rules.{AllSystems, Spins, Grouped, Chosen}
use Rattle.paper.specs.Answer.Frame.{Frame, Spelt, next, group_bytes, frame_lattice, frame_call, frame_choices, frame_buffers, FrameSizes, HasBack, GroupSize}
use Rattle.paper.specs.Answer.Frame.{frame_rules}

-- the five lines, each followed by what it must say, and then the move's own tests
pub record FrameValid (text : List ℕ) : Type 0 where
  pub sizes_line : Frame 0x10 4 text
  pub sizes : FrameSizes (frame_lattice text [])
  pub spins_line : Frame 0x11 ((frame_lattice text []).s * (frame_lattice text []).n) (next text)
  pub forward_line : Frame 0x12 (2 * ((frame_lattice text []).n * (frame_lattice text []).d)) (next (next text))
  pub group_line : Spelt 0x13 (next (next (next text)))
  pub group_size : GroupSize (length (group_bytes text))
  pub perms_line : Frame 0x14 ((frame_lattice text []).n * length (group_bytes text)) (next (next (next (next text))))
  pub ended : next (next (next (next (next text)))) ≡ []
  pub spins : Spins (frame_lattice text []).n (AllSystems (frame_lattice text []).s) (frame_buffers text).spins
  pub back : HasBack text
  pub grouped : Grouped (frame_lattice text []).s (frame_call text []).group
  pub chosen : Chosen (frame_call text []) (frame_choices text)

-- all rules are kept just if these are
pub frame_valid_of : (text : List ℕ) → Kept (frame_rules text) → FrameValid text
frame_valid_of text k = record {
  sizes_line = k.0;
  sizes = k.1.0;
  spins_line = k.1.1.0;
  forward_line = k.1.1.1.0;
  group_line = k.1.1.1.1.0;
  group_size = k.1.1.1.1.1.0;
  perms_line = k.1.1.1.1.1.1.0;
  ended = k.1.1.1.1.1.1.1.0;
  spins = k.1.1.1.1.1.1.1.1.0;
  back = k.1.1.1.1.1.1.1.1.1.0;
  grouped = k.1.1.1.1.1.1.1.1.1.1.0;
  chosen = k.1.1.1.1.1.1.1.1.1.1.1.0;
}

pub frame_valid_kept : (text : List ℕ) → FrameValid text → Kept (frame_rules text)
frame_valid_kept text v = (
  v.sizes_line,
  (
    v.sizes,
    (v.spins_line, (v.forward_line, (v.group_line, (v.group_size, (v.perms_line, (v.ended, (v.spins, (v.back, (v.grouped, (v.chosen, tt)))))))))),
  ),
)
