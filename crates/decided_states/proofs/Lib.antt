mod ReadStates
