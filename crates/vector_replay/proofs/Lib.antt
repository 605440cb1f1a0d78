mod HandlerLemmas
