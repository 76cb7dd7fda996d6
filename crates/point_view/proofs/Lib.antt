mod BetweenLemmas
mod CoverLemmas
mod HeadLemmas
mod LayerLemmas
mod PlaceLemmas
mod SeenLemmas
