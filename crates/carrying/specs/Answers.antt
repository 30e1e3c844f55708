-- What the calls on networks answer: which refusal, or which network.
use Rattle.std.specs.Prelude.{ℕ, Result}
use Rattle.mig.specs.declared.network.Network.{Network}
use Rattle.mig.specs.declared.refusal.Refusal.{Refusal}
use Rattle.mig.specs.Networks.{net_of, network_of}
use Rattle.mig.specs.Rules.{or_else, unless_refused, inputs_refusal, network_refusal, form_refusal}
use Rattle.class_laws.specs.Lifting.{raise_net, cut_net}
use Rattle.class_laws.specs.Ways.{Way, carry_net}

-- the answer of `raise_network`: a network over n inputs as one over four
abbrev pub raised_answer : ℕ → Network → Result Network Refusal
raised_answer n network = unless_refused (form_refusal n network) (network_of (raise_net 4 n (net_of network)))

-- the answer of `cut_network`: a network over four inputs as one over n
abbrev pub cut_answer : ℕ → Network → Result Network Refusal
cut_answer n network = unless_refused (or_else (inputs_refusal n) (network_refusal 4 network)) (network_of (cut_net 4 n (net_of network)))

-- the answer of `carry_network`: a network over four inputs carried by a way
abbrev pub carried_answer : Way → Network → Result Network Refusal
carried_answer w network = unless_refused (network_refusal 4 network) (network_of (carry_net w (net_of network)))
