-- The candidates rise in rank, from the first to the last, and none is left out.
use Rattle.std.proofs.Common.{ℕ, ◌+◌, ◌*◌, ◌<◌, ◌≤◌, cond, Some, None, Option, IfSome, ltb, arith}
use Rattle.std.proofs.lemmas.Bool.{cond_both, ltb-true, ltb-false}
use Rattle.gate_order.specs.declared.FanIn.TheVariants.{First, Second, Third}
use Rattle.gate_order.specs.declared.Candidate.{Candidate}
use Rattle.gate_order.specs.declared.Candidate.TheVariants.{Rising, Buffer}
use Rattle.gate_order.specs.Candidates.{IsCandidate, rank, buffer_of, first_naming, next_nodes, following, NoneBetween}
use Rattle.gate_order.proofs.Coverage.{choice_small}

by_order : (P : Option Candidate → Type 0) (i j : ℕ) (x y : Option Candidate) → (i < j → P x) → (j ≤ i → P y)
    → P (cond (ltb i j) x y)
by_order P i j x y p q = cond_both (ltb i j) x y P (λ e. p (ltb-true i j e)) (λ e. q (ltb-false i j e))

-- the next candidate behind c, over n inputs where k nodes stand
pub record Follows (n k : ℕ) (c : Candidate) (next : Option Candidate) : Type 0 where
  pub is : IfSome next (IsCandidate n k)
  pub rises : IfSome next (λ d. rank c < rank d)
  pub between : NoneBetween n k c next

module _ (n k : ℕ) (few : k < 16) where
  rank_below : (m : ℕ) (x : Candidate) → k ≤ m → IsCandidate n k x → rank x < 16384 + m
  rank_below m (Rising a b c x) past is = let i = choice_small x in omega arith
  rank_below m (Buffer s) past is = omega arith

  pub rank_small : (c : Candidate) → IsCandidate n k c → rank c < 32768
  rank_small c is = let p = rank_below k c (omega arith) is in omega arith

  buffer_follows : (c : Candidate) (source : ℕ) → n < source → rank c < 16384 + source
      → ((x : Candidate) → IsCandidate n k x → rank x < 16384 + source → rank x ≤ rank c)
      → Follows n k c (buffer_of k source)
  buffer_follows c source gate rises none =
      by_order (Follows n k c) source k _ _
      (λ stands. record { is = (gate, stands); rises = rises; between = none })
      (λ past. record { is = tt; rises = tt; between = λ x is _. none x is (rank_below source x past is) })

  -- candidates of nodes below the third, and the first candidate with that third node
  below_first : (third : ℕ) (x : Candidate) → k ≤ third → IsCandidate n k x → rank x < 16384 + (n + 1)
      → rank x < (third * 16 + 1) * 64
  below_first third (Rising a b c x) past is less = let i = choice_small x in omega arith
  below_first third (Buffer s) past is less = absurd (omega arith)

  first_follows : (c : Candidate) (third : ℕ) → 2 ≤ third → rank c < 16384 → rank c < (third * 16 + 1) * 64
      → ((x : Candidate) → IsCandidate n k x → rank x < (third * 16 + 1) * 64 → rank x ≤ rank c)
      → Follows n k c (first_naming n k third)
  first_follows c third three low rises none =
      by_order (Follows n k c) third k _ _
      (λ stands. record {
        is = (omega arith, omega arith, stands);
        rises = omega arith;
        between = λ x is less. none x is (omega arith);
      })
      (λ past. buffer_follows c (n + 1) (omega arith) (omega arith)
      (λ x is less. none x is (below_first third x past is less)))

  next_nodes_follow : (a b c : ℕ) → IsCandidate n k (Rising a b c (Some Third))
      → Follows n k (Rising a b c (Some Third)) (next_nodes n k a b c)
  next_nodes_follow a b c is =
      by_order (Follows n k (Rising a b c (Some Third))) (a + 1) b _ _
      (λ first. record { is = (first, is.1, is.2); rises = omega arith; between = after_first })
      (λ last.
      by_order (Follows n k (Rising a b c (Some Third))) (b + 1) c _ _
      (λ second. record { is = (omega arith, second, is.2); rises = omega arith; between = after_second last })
      (λ top. first_follows (Rising a b c (Some Third)) (c + 1) (omega arith) (omega arith) (omega arith)
      (after_third last top)))
    where
      after_first : (x : Candidate) → IsCandidate n k x → rank x < rank (Rising (a + 1) b c None)
          → rank x ≤ rank (Rising a b c (Some Third))
      after_first x w less = omega arith

      after_second : b ≤ a + 1 → (x : Candidate) → IsCandidate n k x → rank x < rank (Rising 0 (b + 1) c None)
          → rank x ≤ rank (Rising a b c (Some Third))
      after_second last (Rising d e f y) w less = let i = choice_small y in omega arith
      after_second last (Buffer s) w less = omega arith

      after_third : b ≤ a + 1 → c ≤ b + 1 → (x : Candidate) → IsCandidate n k x → rank x < ((c + 1) * 16 + 1) * 64
          → rank x ≤ rank (Rising a b c (Some Third))
      after_third last top (Rising d e f y) w less = let i = choice_small y in omega arith
      after_third last top (Buffer s) w less = omega arith

  -- the candidate that follows is the next one
  pub follows : (c : Candidate) → IsCandidate n k c → Follows n k c (following n k c)
  follows (Rising a b c None) is = record { is = is; rises = omega arith; between = λ x w less. omega arith }
  follows (Rising a b c (Some First)) is = record { is = is; rises = omega arith; between = λ x w less. omega arith }
  follows (Rising a b c (Some Second)) is = record { is = is; rises = omega arith; between = λ x w less. omega arith }
  follows (Rising a b c (Some Third)) is = next_nodes_follow a b c is
  follows (Buffer s) is = buffer_follows (Buffer s) (s + 1) (omega arith) (omega arith) (λ x w less. omega arith)
