use Rattle.pcap_packet.proofs.ChainLemmas.{eight_are_followed, no_ninth_is_followed, fragment_ends}
use Rattle.pcap_packet.proofs.law.chains_of_headers.Goals as goal

pub returns-clause-followed : goal.returns-clause-followed
returns-clause-followed c = eight_are_followed

pub returns-clause-ninth : goal.returns-clause-ninth
returns-clause-ninth c = no_ninth_is_followed

pub returns-clause-fragment : goal.returns-clause-fragment
returns-clause-fragment c = fragment_ends
