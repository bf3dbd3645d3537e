mod Only
mod KeyOnly
mod ListOnly
mod ReadOnly
