-- The number of a bond, of at most 16,384.
use Prim.Native.Nat.{ℕ, ◌+◌, ◌*◌, ◌≤◌, ◌<◌}
use native.Mathlib.Omega.{arith}
use native.Mathlib.Nat.{mul-le-mul_right, suc-mul}

pub bond_lt : (n d i e : ℕ) → i < n → e < d → i * d + e < n * d
bond_lt n d i e hi he = omega (arith, mul-le-mul_right d hi, suc-mul i d)

pub bonds_few : (n d : ℕ) → n ≤ 4096 → d ≤ 4 → n * d ≤ 16384
bonds_few n d hn hd = omega (arith, mul-le-mul_right d hn, hd)
