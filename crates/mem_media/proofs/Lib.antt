mod MediaLemmas
