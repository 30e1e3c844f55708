-- Prefixes, and prefixes with one gate more.
use Rattle.std.proofs.Common.{◌≡◌, ℕ, ◌+◌, ◌*◌, ◌<◌, List, [], ◌∷◌, ◌++◌, length, set, sym, ap, ◌∙◌, subst, arith, length-set}
use Rattle.std.proofs.lemmas.List.{length_push}
use Rattle.mig.specs.declared.network.Gate.{Gate}
use Rattle.mig.specs.declared.network.Network.{Network}
use Rattle.mig.specs.Networks.{Net, net_of, network_of}
use Rattle.value_kinds.specs.declared.kinds.Column.{Column}
use Rattle.value_kinds.specs.Kinds.{columns}
use Rattle.enumeration_laws.specs.Columns.{CodeColumns, gate_column}
use Rattle.enumeration_laws.specs.Prefixes.{with_gate, with_last_node}
use Rattle.enumeration_laws.specs.Placed.{placed, IsPrefix}
use Rattle.enumeration_laws.proofs.Columns.{columns_longer}
use Rattle.enumeration_laws.proofs.Found.{net_written}

module _ {n : ℕ} {network : Network} {list : List Column} (is : IsPrefix n network list) where
  pub placed_count : length (placed network) ≡ network.count
  placed_count = sym (ap (λ (x : Network). x.count) is.written)

  pub prefix_net : net_of network ≡ with_last_node n (placed network)
  prefix_net = net_written network (with_last_node n (placed network)) is.written

  -- the places behind the gates are 0
  pub prefix_cleared : network ≡ network_of (net_of network)
  prefix_cleared = is.written ∙ ap network_of (sym prefix_net)

  -- one gate more
  module _ (longer : Network) (g : Gate)
      (written : longer ≡ network_of (with_gate (placed network) g (2 * (n + 1 + network.count)))) where
    pub placed_longer : placed longer ≡ placed network ++ g ∷ []
    placed_longer =
        ap (λ (x : Net). x.gates)
        (net_written longer (with_gate (placed network) g (2 * (n + 1 + network.count))) written)

    pub longer_is_prefix : (k : ℕ) (x : Column) → k ≡ n + 1 + network.count → 2 * k + 1 < 24
        → x ≡ gate_column n (placed network) g
        → IsPrefix n longer (set (set list (2 * k) x) (2 * k + 1) (columns.complement x))
    longer_is_prefix k x node room gate =
        let e : 2 * (n + 1 + network.count) ≡ 2 * (n + length (placed network ++ g ∷ [])) =
        omega (arith, placed_count, length_push (placed network) g) in
        record {
          written =
              written
              ∙ ap (λ o. network_of (with_gate (placed network) g o)) e
              ∙ ap (λ gs. network_of (with_last_node n gs)) (sym placed_longer);
          columns =
              subst (λ gs. CodeColumns n gs (set (set list (2 * k) x) (2 * k + 1) (columns.complement x)))
              (sym placed_longer)
              (columns_longer n (placed network) g list k x (omega (arith, placed_count)) gate
              (omega (arith, is.room)) is.columns);
          room = length-set (set list (2 * k) x) (2 * k + 1) (columns.complement x) ∙ length-set list (2 * k) x
              ∙ is.room;
        }
