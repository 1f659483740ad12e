use Rattle.pb_test_search.proofs.graphs.spend_one_of_the_first.Goals as goal

pub spend_one-requires : goal.spend_one-requires
spend_one-requires c = c.in-Some.ensures.leased.of_graph
