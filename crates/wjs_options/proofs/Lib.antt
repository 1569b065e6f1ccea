mod AlikeFaults
mod AlikeWalks
mod CommandFacts
mod DefaultReads
mod LineLemmas
mod ReadLemmas
mod SameCommand
