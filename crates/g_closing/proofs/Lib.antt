mod HoldLemmas
